-- Sets of numbers below a bound, and the columns of runs of rows.
use Rattle.std.proofs.Common.{◌≡◌, ℕ, zero, suc, ◌+◌, ◌-◌, ◌<◌, ◌≤◌, min, Bool, true, false, cond, ◌||◌, eqb, List, [], ◌∷◌, ◌++◌, take, drop, sym, refl, ap, ◌∙◌, subst, ⊎_elim, arith}
use Rattle.std.specs.List.{between, flat_map}
use Rattle.std.proofs.lemmas.List.Edits.{between_more, between_none}
use Rattle.std.proofs.lemmas.List.{append-nil, take-append-drop, drop-drop, drop-take, take-take}
use Rattle.std.proofs.lemmas.Grind.{flat_map-append}
use Rattle.std.proofs.Math.Bool.{or_assoc, or-false}
use Rattle.std.proofs.lemmas.Bool.{cond_both, cases_eq, or_left, or_right}
use Rattle.pattern.specs.Sparsity.{Sparsity, row_at, row_count}
use Rattle.pattern.specs.Columns.{columns_in, among, size_below}
use Rattle.pattern.proofs.Spans.{between_clipped}

-- sizes

pub size_same : (n : ℕ) (p q : ℕ → Bool) → ((c : ℕ) → c < n → p c ≡ q c) → size_below n p ≡ size_below n q
size_same zero p q h = refl
size_same (suc n) p q h =
    let e : p n ≡ q n = h n (omega arith) in
    rw (size_same n p q (λ c l. h c (omega arith)), e)

pub size_le : (n : ℕ) (p : ℕ → Bool) → size_below n p ≤ n
size_le zero p = omega arith
size_le (suc n) p = cond_both (p n) 1 0 (λ k. size_below n p + k ≤ suc n) (λ e. omega (arith, size_le n p)) (λ e. omega (arith, size_le n p))

pub size_none : (n : ℕ) → size_below n (λ c. false) ≡ 0
size_none zero = refl
size_none (suc n) = omega (arith, size_none n)

pub size_grows : (n : ℕ) (p q : ℕ → Bool) → ((c : ℕ) → c < n → p c ≡ true → q c ≡ true) → size_below n p ≤ size_below n q
size_grows zero p q h = omega arith
size_grows (suc n) p q h = omega (arith, size_grows n p q (λ c l. h c (omega arith)), here)
  where
    here : cond {A = ℕ} (p n) 1 0 ≤ cond {A = ℕ} (q n) 1 0
    here = cond_both (p n) 1 0 (λ k. k ≤ cond (q n) 1 0) (λ e. rw (h n (omega arith) e) (omega arith)) (λ e. omega arith)

-- one number more
pub size_more : (n x : ℕ) (p q : ℕ → Bool) → x < n → p x ≡ false → q x ≡ true → ((c : ℕ) → c < n → (c ≡ x → ⊥) → q c ≡ p c)
    → size_below n q ≡ size_below n p + 1
size_more zero x p q l before after other = absurd (omega arith)
size_more (suc n) x p q l before after other =
    ⊎_elim here (λ ne. there ne (λ k. size_more n x p q k before after (λ c h. other c (omega arith)))) (cases_eq n x)
  where
    here : n ≡ x → size_below (suc n) q ≡ size_below (suc n) p + 1
    here e =
        let a : p n ≡ false = rw e before in
        let b : q n ≡ true = rw e after in
        let s : size_below n q ≡ size_below n p = size_same n q p (λ c h. other c (omega arith) (λ z. omega arith)) in
        rw (a, b) (omega (arith, s))

    there : (n ≡ x → ⊥) → (x < n → size_below n q ≡ size_below n p + 1) → size_below (suc n) q ≡ size_below (suc n) p + 1
    there ne rest =
        let e : q n ≡ p n = other n (omega arith) ne in
        rw e (omega (arith, rest (omega (arith, ne))))

pub among_append : (xs ys : List ℕ) (c : ℕ) → among (xs ++ ys) c ≡ (among xs c || among ys c)
among_append [] ys c = refl
among_append (x ∷ xs) ys c = ap (λ t. eqb x c || t) (among_append xs ys c) ∙ sym (or_assoc (eqb x c) (among xs c) (among ys c))

pub among_push : (xs : List ℕ) (x c : ℕ) → among (xs ++ x ∷ []) c ≡ (among xs c || eqb x c)
among_push xs x c = among_append xs (x ∷ []) c ∙ ap (λ t. among xs c || t) (or-false (eqb x c))

-- a run is its front and its rest
between_split : {X : Type 0} (xs : List X) (a b c : ℕ) → a ≤ b → b ≤ c → between a c xs ≡ between a b xs ++ between b c xs
between_split xs a b c h l =
    let m = b - a in
    let e : m + (c - b) ≡ c - a = omega arith in
    let f : a + m ≡ b = omega arith in
    let t : take m (take (c - a) (drop a xs)) ≡ take m (drop a xs) = take-take m (c - a) (drop a xs) (omega arith) in
    let d : drop m (take (c - a) (drop a xs)) ≡ take (c - b) (drop b xs) =
    subst (λ n. drop m (take n (drop a xs)) ≡ take (c - b) (drop b xs)) e
    (drop-take m (c - b) (drop a xs) ∙ ap (take (c - b)) (drop-drop m a xs ∙ ap (λ n. drop n xs) f)) in
    sym (take-append-drop m (take (c - a) (drop a xs))) ∙ rw (t, d)

module _ (s : Sparsity) where
  pub columns_none : (a : ℕ) → columns_in s a a ≡ []
  columns_none a = ap (flat_map (λ row. row)) (between_none s.rows a)

  -- the columns of one row more
  pub columns_more : (a i : ℕ) → a ≤ i → i < row_count s → columns_in s a (i + 1) ≡ columns_in s a i ++ row_at s i
  columns_more a i h l =
      ap (flat_map (λ row. row)) (between_more s.rows a i [] h l)
      ∙ flat_map-append (λ row. row) (between a i s.rows) (row_at s i ∷ [])
      ∙ ap (λ t. columns_in s a i ++ t) (append-nil (row_at s i))

  pub columns_clipped : (a b : ℕ) → columns_in s (min a (min b (row_count s))) (min b (row_count s)) ≡ columns_in s a b
  columns_clipped a b = ap (flat_map (λ row. row)) (between_clipped s.rows a b)

  columns_split : (a b c : ℕ) → a ≤ b → b ≤ c → columns_in s a c ≡ columns_in s a b ++ columns_in s b c
  columns_split a b c h l =
      ap (flat_map (λ row. row)) (between_split s.rows a b c h l) ∙ flat_map-append (λ row. row) (between a b s.rows) (between b c s.rows)

  -- rows around others have their columns
  pub columns_grow : (a b a' b' c : ℕ) → a' ≤ a → a ≤ b → b ≤ b' → among (columns_in s a b) c ≡ true → among (columns_in s a' b') c ≡ true
  columns_grow a b a' b' c h l k e =
      let whole : columns_in s a' b' ≡ columns_in s a' a ++ (columns_in s a b ++ columns_in s b b') =
      columns_split a' a b' h (omega arith) ∙ ap (λ t. columns_in s a' a ++ t) (columns_split a b b' l k) in
      rw (whole, among_append (columns_in s a' a) (columns_in s a b ++ columns_in s b b') c)
      (or_right (among (columns_in s a' a) c) (among (columns_in s a b ++ columns_in s b b') c)
      (rw (among_append (columns_in s a b) (columns_in s b b') c) (or_left (among (columns_in s a b) c) (among (columns_in s b b') c) e)))
