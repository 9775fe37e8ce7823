-- A column stands in the row of a point exactly if it is a point at most one step away.
use Rattle.std.proofs.Common.{◌≡◌, ℕ, zero, suc, ◌+◌, ◌-◌, ◌*◌, ◌/◌, ◌%◌, ◌<◌, ◌≤◌, Bool, true, false, cond, ltb, ◌⊎◌, List, [], ◌∷◌, length, get_or, sym, refl, ap, ◌∙◌, inl, inr, ⊎_elim, add-mul, one-mul, arith}
use Rattle.std.proofs.lemmas.Nat.{mul-add-lt, div-mul-add, mod-mul-add}
use Rattle.std.proofs.lemmas.Bool.{cases_order, false≢true, lt-ltb, ltb-true}
use Rattle.grid.specs.Lattice.{Adjacent, Near, apart, lattice_sparsity, neighbours}
use Rattle.grid.specs.Rows.{row_is}

-- c stands at some place of a list that is read with the default d
abbrev Held : ℕ → ℕ → List ℕ → Type 0
Held d c xs = (place : ℕ) × (place < length xs) × (get_or xs place d ≡ c)

held_none : (d c : ℕ) → Held d c [] → ⊥
held_none d c h = omega (arith, h.1)

held_here : (d c x : ℕ) (xs : List ℕ) → c ≡ x → Held d c (x ∷ xs)
held_here d c x xs e = (0, omega arith, sym e)

held_there : (d c x : ℕ) (xs : List ℕ) → Held d c xs → Held d c (x ∷ xs)
held_there d c x xs h = (suc h.0, omega (arith, h.1), h.2)

held_first : (d c x : ℕ) (xs : List ℕ) → Held d c (x ∷ xs) → (c ≡ x) ⊎ Held d c xs
held_first d c x xs (zero, l, e) = inl (sym e)
held_first d c x xs (suc k, l, e) = inr (k, omega (arith, l), e)

held_when : (d c : ℕ) (b : Bool) (x : ℕ) (xs : List ℕ) → Held d c (cond b (x ∷ xs) xs) → ((b ≡ true) × (c ≡ x)) ⊎ Held d c xs
held_when d c true x xs h = ⊎_elim (λ e. inl (refl, e)) (λ k. inr k) (held_first d c x xs h)
held_when d c false x xs h = inr h

held_if : (d c : ℕ) (b : Bool) (x : ℕ) (xs : List ℕ) → b ≡ true → c ≡ x → Held d c (cond b (x ∷ xs) xs)
held_if d c true x xs t e = held_here d c x xs e
held_if d c false x xs t e = absurd (false≢true t)

held_after : (d c : ℕ) (b : Bool) (x : ℕ) (xs : List ℕ) → Held d c xs → Held d c (cond b (x ∷ xs) xs)
held_after d c true x xs h = held_there d c x xs h
held_after d c false x xs h = h

module _ (p q x y : ℕ) (across : x < p) (down : y < q) where
  abbrev i : ℕ
  i = y * p + x

  abbrev downs : List ℕ
  downs = cond (ltb (i / p + 1) q) ((i + p) ∷ []) []

  abbrev rights : List ℕ
  rights = cond (ltb (i % p + 1) p) ((i + 1) ∷ downs) downs

  abbrev lefts : List ℕ
  lefts = cond (ltb 0 (i % p)) ((i - 1) ∷ i ∷ rights) (i ∷ rights)

  line : i / p ≡ y
  line = div-mul-add y p x across

  point : i % p ≡ x
  point = mod-mul-add y p x across

  module _ (d c : ℕ) where
    near_downs : Held d c downs → Near p q x y c
    near_downs h =
        ⊎_elim
        (λ e. (x, y + 1, across, omega (arith, ltb-true (i / p + 1) q e.0, line), omega (arith, e.1, add-mul y 1 p, one-mul p), omega arith))
        (λ e. absurd (held_none d c e))
        (held_when d c (ltb (i / p + 1) q) (i + p) [] h)

    near_rights : Held d c rights → Near p q x y c
    near_rights h =
        ⊎_elim (λ e. (x + 1, y, omega (arith, ltb-true (i % p + 1) p e.0, point), down, omega (arith, e.1), omega arith)) near_downs
        (held_when d c (ltb (i % p + 1) p) (i + 1) downs h)

    near_here : Held d c (i ∷ rights) → Near p q x y c
    near_here h = ⊎_elim (λ e. (x, y, across, down, e, omega arith)) near_rights (held_first d c i rights h)

    near_lefts : Held d c lefts → Near p q x y c
    near_lefts h =
        ⊎_elim
        (λ e. let z : 0 < x = omega (arith, ltb-true 0 (i % p) e.0, point) in
        (x - 1, y, omega arith, down, omega (arith, e.1), omega arith))
        near_here
        (held_when d c (ltb 0 (i % p)) (i - 1) (i ∷ rights) h)

    near : Held d c (neighbours p q i) → Near p q x y c
    near h =
        ⊎_elim
        (λ e. let z : 0 < y = omega (arith, ltb-true 0 (i / p) e.0, line) in
        let s : y - 1 + 1 ≡ y = omega arith in
        let t : (y - 1) * p + 1 * p ≡ y * p = sym (add-mul (y - 1) 1 p) ∙ ap (λ n. n * p) s in
        (x, y - 1, across, omega arith, omega (arith, e.1, t, one-mul p), omega arith))
        near_lefts
        (held_when d c (ltb 0 (i / p)) (i - p) lefts h)

    from_here : Held d c (i ∷ rights) → Held d c (neighbours p q i)
    from_here h = held_after d c (ltb 0 (i / p)) (i - p) lefts (held_after d c (ltb 0 (i % p)) (i - 1) (i ∷ rights) h)

    held_above : (x' y' : ℕ) → c ≡ y' * p + x' → x' ≡ x → y' + 1 ≡ y → Held d c (neighbours p q i)
    held_above x' y' e f g =
        let t : y' * p + 1 * p ≡ y * p = sym (add-mul y' 1 p) ∙ ap (λ n. n * p) g in
        held_if d c (ltb 0 (i / p)) (i - p) lefts (lt-ltb 0 (i / p) (omega (arith, line))) (omega (arith, t, one-mul p))

    held_below : (x' y' : ℕ) → y' < q → c ≡ y' * p + x' → x' ≡ x → y + 1 ≡ y' → Held d c (neighbours p q i)
    held_below x' y' l e f g =
        let t : y * p + 1 * p ≡ y' * p = sym (add-mul y 1 p) ∙ ap (λ n. n * p) g in
        from_here
        (held_there d c i rights
        (held_after d c (ltb (i % p + 1) p) (i + 1) downs
        (held_if d c (ltb (i / p + 1) q) (i + p) [] (lt-ltb (i / p + 1) q (omega (arith, line))) (omega (arith, t, one-mul p)))))

    held_along : (x' y' : ℕ) → x' < p → c ≡ y' * p + x' → apart x x' ≤ 1 → y' ≡ y → Held d c (neighbours p q i)
    held_along x' y' l e a g =
        let t : y' * p ≡ y * p = ap (λ n. n * p) g in
        ⊎_elim (λ k. from_here (held_here d c i rights (omega arith)))
        (⊎_elim
        (λ k.
        held_after d c (ltb 0 (i / p)) (i - p) lefts
        (held_if d c (ltb 0 (i % p)) (i - 1) (i ∷ rights) (lt-ltb 0 (i % p) (omega (arith, point))) (omega arith)))
        (λ k.
        from_here
        (held_there d c i rights
        (held_if d c (ltb (i % p + 1) p) (i + 1) downs (lt-ltb (i % p + 1) p (omega (arith, point))) (omega arith)))))
        (cases_order x' x)

    held : Near p q x y c → Held d c (neighbours p q i)
    held (x', y', l, m, e, a) =
        ⊎_elim (λ k. held_along x' y' l e (omega arith) k)
        (⊎_elim (λ k. held_above x' y' e (omega arith) (omega arith)) (λ k. held_below x' y' m e (omega arith) (omega arith)))
        (cases_order y' y)

pub adjacent : (p q : ℕ) → Adjacent p q (lattice_sparsity p q)
adjacent p q x y c across down =
    let l : y * p + x < p * q = mul-add-lt y p x q down across in
    rw (row_is p q (y * p + x) l) (near p q x y across down (p * q) c, held p q x y across down (p * q) c)
