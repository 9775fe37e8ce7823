-- A count over numbers, one by one: how many distinct ones below a bound there have been.
use Rattle.std.proofs.Common.{◌≡◌, ℕ, ◌+◌, ◌<◌, ◌≤◌, Bool, true, false, not, ◌&&◌, ◌||◌, eqb, ltb, leb, ◌⊎◌, List, [], ◌∷◌, ◌++◌, length, get_or, take, sym, refl, ap, ◌∙◌, subst, ⊎_elim, arith}
use mir.Val.{bool_byte}
use Rattle.std.proofs.Math.Bool.{or_assoc, or-false, or-true, and-false, and-true}
use Rattle.std.proofs.lemmas.List.{take_more}
use Rattle.std.proofs.lemmas.Bool.{cases_lt, cases_eq, cases_Bool, and_parts, and_cases, and_left, and_from, not-true, not-false, ltb-true, ltb-false, lt-ltb, le-ltb, le-leb, eqb-true, eq-eqb, ne_eqb, or_left}
use Rattle.pattern.specs.Columns.{among, size_below, row_number}
use Rattle.pattern.proofs.Sets.{size_le, size_same, size_none, size_more, among_push}
use Rattle.marks.specs.Counts.{Counted, Counts}
use Rattle.marks.specs.declared.memory.Marked.{Marked}

-- A number that is below the bound, new and counted at all makes the set one larger; any other leaves it as large.
seen_more_of : (n x total : ℕ) (p q m : ℕ → Bool) (fresh : Bool) → total ≡ size_below n (λ c. p c && m c) → fresh ≡ (ltb x n && not (p x))
    → ((c : ℕ) → c < n → q c ≡ (p c || eqb x c)) → total + bool_byte (fresh && m x) ≡ size_below n (λ c. q c && m c)
seen_more_of n x total p q m fresh t f after = ⊎_elim larger as_large (cases_Bool (fresh && m x))
  where
    other : (c : ℕ) → c < n → eqb x c ≡ false → q c ≡ p c
    other c h z = after c h ∙ ap (λ v. p c || v) z ∙ or-false (p c)

    old : (c : ℕ) → c < n → x ≡ c → fresh ≡ false → p c ≡ true
    old c h e z =
        ⊎_elim
        (λ y. absurd (far c h e (ltb-false x n y)))
        (λ y. subst (λ v. p v ≡ true) e (not-false (p x) y))
        (and_cases (ltb x n) (not (p x)) (sym f ∙ z))
      where
        far : (c : ℕ) → c < n → x ≡ c → n ≤ x → ⊥
        far c h e l = omega arith

    larger : fresh && m x ≡ true → total + bool_byte (fresh && m x) ≡ size_below n (λ c. q c && m c)
    larger z =
        let both = and_parts fresh (m x) z in
        let parts = and_parts (ltb x n) (not (p x)) (sym f ∙ both.0) in
        let l : x < n = ltb-true x n parts.0 in
        let a : p x ≡ false = not-true (p x) parts.1 in
        let b : q x ≡ true = after x l ∙ ap (λ v. p x || v) (eq-eqb x x refl) ∙ or-true (p x) in
        rw z (ap (λ v. v + 1) t ∙ sym (size_more n x (λ c. p c && m c) (λ c. q c && m c) l (and_left (p x) (m x) a) (and_from (q x) (m x) b both.1)
        (λ c h ne. ap (λ v. v && m c) (other c h (ne_eqb x c (λ y. ne (sym y)))))))

    same : (c : ℕ) → c < n → fresh && m x ≡ false → (eqb x c ≡ true) ⊎ (eqb x c ≡ false) → (p c && m c) ≡ (q c && m c)
    same c h z k =
        ⊎_elim
        (λ y. ⊎_elim
        (λ g. let o : p c ≡ true = old c h (eqb-true x c y) g in
        ap (λ v. v && m c) (o ∙ sym (after c h ∙ or_left (p c) (eqb x c) o)))
        (λ g. let e : m c ≡ false = subst (λ v. m v ≡ false) (eqb-true x c y) g in
        rw e (and-false (p c) ∙ sym (and-false (q c))))
        (and_cases fresh (m x) z))
        (λ y. ap (λ v. v && m c) (sym (other c h y)))
        k

    as_large : fresh && m x ≡ false → total + bool_byte (fresh && m x) ≡ size_below n (λ c. q c && m c)
    as_large z =
        rw z (omega (arith, t, size_same n (λ c. p c && m c) (λ c. q c && m c) (λ c h. same c h z (cases_Bool (eqb x c)))))

-- the columns of a list that is read place by place
pub among_more : (xs : List ℕ) (place x d c : ℕ) → place < length xs → x ≡ get_or xs place d
    → among (take (place + 1) xs) c ≡ (among (take place xs) c || eqb x c)
among_more xs place x d c l e =
    ap (λ v. among v c) (take_more xs place d l ∙ ap (λ y. take place xs ++ y ∷ []) (sym e)) ∙ among_push (take place xs) x c

-- whether c is one of the row numbers, with one more of them
pub number_more : (from row c : ℕ) → from ≤ row → (row_number from row c || eqb row c) ≡ row_number from (row + 1) c
number_more from row c l = ⊎_elim below (λ h. ⊎_elim here (λ ne. past ne h) (cases_eq row c)) (cases_lt c row)
  where
    below : c < row → (row_number from row c || eqb row c) ≡ row_number from (row + 1) c
    below h =
        let a : ltb c row ≡ true = lt-ltb c row h in
        let b : ltb c (row + 1) ≡ true = lt-ltb c (row + 1) (omega arith) in
        let d : eqb row c ≡ false = ne_eqb row c (λ z. omega arith) in
        rw (a, b, d) (or-false (leb from c && true))

    here : row ≡ c → (row_number from row c || eqb row c) ≡ row_number from (row + 1) c
    here z =
        let a : eqb row c ≡ true = eq-eqb row c z in
        let b : leb from c ≡ true = le-leb from c (omega arith) in
        let d : ltb c (row + 1) ≡ true = lt-ltb c (row + 1) (omega arith) in
        rw (a, b, d) (or-true (ltb c row))

    past : (row ≡ c → ⊥) → row ≤ c → (row_number from row c || eqb row c) ≡ row_number from (row + 1) c
    past ne h =
        let a : ltb c row ≡ false = le-ltb c row h in
        let b : ltb c (row + 1) ≡ false = le-ltb c (row + 1) (⊎_elim (λ k. omega arith) (λ k. absurd (ne (omega arith))) (cases_lt row c)) in
        let d : eqb row c ≡ false = ne_eqb row c ne in
        rw (a, b, d) (or-false (leb from c && false))

module _ {n : ℕ} {about : ℕ → Bool} where
  -- one column, which a mark says to be new
  pub counts_one : (x : ℕ) (p q : ℕ → Bool) (fresh : Bool) → fresh ≡ (ltb x n && not (p x))
      → ((c : ℕ) → c < n → q c ≡ (p c || eqb x c)) → Counts n about (eqb x) p q (bool_byte (fresh && about x))
  counts_one x p q fresh f after = record {
    sees = after;
    adds = seen_more_of n x (size_below n (λ c. p c && about c)) p q about fresh refl f after;
  }

  -- some columns, and then others
  pub counts_then : {xs ys zs p q t : ℕ → Bool} {r s : ℕ} → Counts n about xs p q r → Counts n about ys q t s
      → ((c : ℕ) → c < n → zs c ≡ (xs c || ys c)) → Counts n about zs p t (r + s)
  counts_then {xs} {ys} {zs} {p} {q} a b both = record {
    sees = λ c h.
        b.sees c h ∙ ap (λ v. v || ys c) (a.sees c h) ∙ or_assoc (p c) (xs c) (ys c) ∙ ap (λ v. p c || v) (sym (both c h));
    adds = omega (arith, a.adds, b.adds);
  }

  pub counts_le : {xs p q : ℕ → Bool} {r : ℕ} → Counts n about xs p q r → r ≤ n
  counts_le {q = q} a = omega (arith, a.adds, size_le n (λ c. q c && about c))

  -- what a count says that had seen none
  pub counts_all : {xs p q : ℕ → Bool} {r : ℕ} → ((c : ℕ) → c < n → p c ≡ false) → Counts n about xs p q r
      → r ≡ size_below n (λ c. xs c && about c)
  counts_all {xs} {p} {q} none a =
      let before : size_below n (λ c. p c && about c) ≡ 0 =
      size_same n (λ c. p c && about c) (λ c. false) (λ c h. and_left (p c) (about c) (none c h)) ∙ size_none n in
      let after : size_below n (λ c. q c && about c) ≡ size_below n (λ c. xs c && about c) =
      size_same n (λ c. q c && about c) (λ c. xs c && about c)
      (λ c h. ap (λ v. v && about c) (a.sees c h ∙ ap (λ v. v || xs c) (none c h))) in
      omega (arith, a.adds)

-- both where the count is about each column
pub counts_mark : {n : ℕ} (x : ℕ) (p q : ℕ → Bool) (fresh : Bool) → fresh ≡ (ltb x n && not (p x))
    → ((c : ℕ) → c < n → q c ≡ (p c || eqb x c)) → Counts n (λ c. true) (eqb x) p q (bool_byte fresh)
counts_mark {n} x p q fresh f after =
    subst (λ b. Counts n (λ c. true) (eqb x) p q (bool_byte b)) (and-true fresh) (counts_one x p q fresh f after)

pub counts_each : {n : ℕ} {xs p q : ℕ → Bool} {r : ℕ} → ((c : ℕ) → c < n → p c ≡ false) → Counts n (λ c. true) xs p q r
    → r ≡ size_below n xs
counts_each {n} {xs} none a = counts_all none a ∙ size_same n (λ c. xs c && true) xs (λ c h. and-true (xs c))

-- the same of a pattern with marks
pub counted_then : {P : Type 0} {about xs ys zs : ℕ → Bool} {a b d : Marked P} {r s : ℕ} → Counted about xs a b r → Counted about ys b d s
    → ((c : ℕ) → c < a.width → zs c ≡ (xs c || ys c)) → Counted about zs a d (r + s)
counted_then one two both = record {
  pattern = two.pattern ∙ one.pattern;
  width = two.width ∙ one.width;
  counts = counts_then one.counts (rw one.width at two.counts) both;
}
