-- The rows of a diagonal, and that they keep the law of patterns.
use Rattle.std.specs.Prelude.{◌≡◌, ℕ, zero, suc, ◌+◌, ◌<◌, ◌≤◌, [], ◌∷◌, map, length, sum, refl}
use Rattle.std.proofs.Common.{⊎_elim, arith, rules}
use Rattle.std.specs.List.{range_with_len}
use Rattle.std.proofs.lemmas.List.FromFn.{length-map-range_with_len, get_or-map-range_with_len}
use Rattle.std.proofs.lemmas.List.{get_or_past}
use Rattle.std.proofs.lemmas.List.Sums.{sum_by-cons}
use Rattle.std.proofs.lemmas.Bool.{cases_lt}
use Rattle.pattern.specs.Sparsity.{Lawful, row_at, row_count}
use Rattle.cases.specs.Diagonals.{diagonal}

module _ (n : ℕ) where
  pub height_is : row_count (diagonal n) ≡ n
  height_is = length-map-range_with_len (λ i. i ∷ []) 0 n

  pub row_is : (i : ℕ) → i < n → row_at (diagonal n) i ≡ i ∷ []
  row_is i h = get_or-map-range_with_len (λ i. i ∷ []) 0 n i i [] h (omega arith)

  pub row_past : (i : ℕ) → n ≤ i → row_at (diagonal n) i ≡ []
  row_past i h = get_or_past (diagonal n).rows i [] (omega (arith, height_is))

one_each : (a n : ℕ) → sum (map length (map (λ i. i ∷ []) (range_with_len a n))) ≡ n
one_each a zero = refl
one_each a (suc n) = omega (arith, sum_by-cons (λ x. x) 1 (map length (map (λ i. i ∷ []) (range_with_len (a + 1) n))), one_each (a + 1) n)

pub lawful : (n : ℕ) → n ≤ 1000000 → Lawful (diagonal n)
lawful n few = record {
  height = omega (arith, height_is n);
  width = few;
  entries = omega (arith, one_each 0 n);
  ordered = λ i.
      ⊎_elim (λ l. rw (row_is n i l) (grind arith))
      (λ l. rw (row_past n i l) (search (arith, rules)))
      (cases_lt i n);
}
