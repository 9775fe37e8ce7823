-- A code tells the nearest earlier row that has the column.
use Rattle.std.proofs.Common.{◌≡◌, ℕ, zero, suc, ◌+◌, ◌<◌, ◌≤◌, true, false, ◌⊎◌, sym, refl, ap, ◌∙◌, subst, inl, inr, ⊎_elim, add-one, arith}
use Rattle.std.proofs.lemmas.Bool.{cases_lt, cases_order, cases_Bool, cond-true, cond-false, both_ways}
use Rattle.pattern.specs.Columns.{among}
use Rattle.pattern.specs.Sparsity.{Sparsity, row_at}
use Rattle.table.specs.Codes.{code}
use Rattle.table.specs.Laws.{Lacked, Nearest, CodeLaw}

-- no code of row i is more than i
pub code_le : (s : Sparsity) (i c : ℕ) → code s i c ≤ i
unfolding code
code_le s zero c = omega arith
code_le s (suc i) c =
    ⊎_elim
    (λ y. omega (arith, cond-true {A = ℕ} (among (row_at s i) c) (suc i) (code s i c) y))
    (λ n. omega (arith, cond-false {A = ℕ} (among (row_at s i) c) (suc i) (code s i c) n, code_le s i c))
    (cases_Bool (among (row_at s i) c))

module _ (s : Sparsity) where
  -- one row more that lacks a column
  lacked_more : (a i c : ℕ) → Lacked s a i c → among (row_at s i) c ≡ false → Lacked s a (suc i) c
  lacked_more a i c f n r h l =
      ⊎_elim
      (λ (k : r < i). f r h k)
      (λ (k : i ≤ r). let e : r ≡ i = omega arith in subst (λ x. among (row_at s x) c ≡ false) (sym e) n)
      (cases_lt r i)

  -- either no row has the column, or there is a nearest
  told : (i c : ℕ) → ((code s i c ≡ 0) × Lacked s 0 i c) ⊎ ((r : ℕ) × ((code s i c ≡ r + 1) × Nearest s i c r))
  unfolding code
  told zero c = inl (refl, λ r h l. absurd (none r l))
    where
      none : (r : ℕ) → r < 0 → ⊥
      none r l = omega arith
  told (suc i) c =
      ⊎_elim
      (λ (y : among (row_at s i) c ≡ true).
      inr (i, (cond-true {A = ℕ} (among (row_at s i) c) (suc i) (code s i c) y ∙ sym (add-one i), (omega arith, y, λ r h l. absurd (none r h l)))))
      (λ (n : among (row_at s i) c ≡ false).
      let e = cond-false {A = ℕ} (among (row_at s i) c) (suc i) (code s i c) n in
      ⊎_elim
      (λ t. inl (e ∙ t.0, lacked_more 0 i c t.1 n))
      (λ t. inr (t.0, (e ∙ t.1.0, (omega (arith, t.1.1.0), t.1.1.1, lacked_more (t.0 + 1) i c t.1.1.2 n))))
      (told i c))
      (cases_Bool (among (row_at s i) c))
    where
      none : (r : ℕ) → i + 1 ≤ r → r < suc i → ⊥
      none r h l = omega arith

  -- there is only one nearest row
  one_nearest : (i c r t : ℕ) → Nearest s i c r → Nearest s i c t → r ≡ t
  one_nearest i c r t n m =
      ⊎_elim (λ e. e)
      (⊎_elim
      (λ (l : r < t). absurd (both_ways (among (row_at s t) c) (n.2 t (omega arith) m.0) m.1))
      (λ (l : t < r). absurd (both_ways (among (row_at s r) c) (m.2 r (omega arith) n.0) n.1)))
      (cases_order r t)

pub code-law : CodeLaw
code-law s i c = ((zero_lacked, lacked_zero), λ r. (code_nearest r, nearest_code r))
  where
    zero_lacked : code s i c ≡ 0 → Lacked s 0 i c
    zero_lacked e = ⊎_elim (λ t. t.1) (λ t. absurd (omega (arith, t.1.0, e))) (told s i c)

    lacked_zero : Lacked s 0 i c → code s i c ≡ 0
    lacked_zero f =
        ⊎_elim (λ t. t.0) (λ t. absurd (both_ways (among (row_at s t.0) c) (f t.0 (omega arith) t.1.1.0) t.1.1.1)) (told s i c)

    code_nearest : (r : ℕ) → code s i c ≡ r + 1 → Nearest s i c r
    code_nearest r e =
        ⊎_elim
        (λ t. absurd (omega (arith, t.0, e)))
        (λ t. let z : t.0 ≡ r = omega (arith, t.1.0, e) in subst (λ x. Nearest s i c x) z t.1.1)
        (told s i c)

    nearest_code : (r : ℕ) → Nearest s i c r → code s i c ≡ r + 1
    nearest_code r n =
        ⊎_elim
        (λ t. absurd (both_ways (among (row_at s r) c) (t.1 r (omega arith) n.0) n.1))
        (λ t. t.1.0 ∙ ap (λ x. x + 1) (one_nearest s i c t.0 r t.1.1 n))
        (told s i c)
