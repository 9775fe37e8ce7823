-- Runs of a list, clipped to its length and summed, and the entries of runs of rows.
use Rattle.std.proofs.Common.{◌≡◌, ℕ, ◌+◌, ◌-◌, ◌<◌, ◌≤◌, min, List, [], length, map, get_or, take, drop, sum, sym, refl, zero, suc, add-zero, add-one, ap, ◌∙◌, subst, ⊎_elim, arith, length-drop}
use Rattle.std.specs.List.{between, range_with_len}
use Rattle.std.proofs.lemmas.List.{nil_from_length, length-take, take_all, take-take, take-append-drop, drop-take, length-map, get_or-map}
use Rattle.std.proofs.lemmas.List.Sums.{sum_by-append, sum_by_push, sum_by-take-le, sum_by-take-drop}
use Rattle.std.proofs.lemmas.List.Edits.{between_more, between_none}
use Rattle.std.proofs.lemmas.List.FromFn.{sum_by-map-range_with_len_more}
use Rattle.std.proofs.lemmas.Bool.{cases_lt}
use Rattle.pattern.specs.Sparsity.{Sparsity, Lawful, row_count, row_counts, entry_count, entries_between}

-- what lies past the end of a list adds nothing to a run of it
pub between_clipped : {X : Type 0} (xs : List X) (a b : ℕ)
    → between (min a (min b (length xs))) (min b (length xs)) xs ≡ between a b xs
between_clipped xs a b = ⊎_elim (λ l. ⊎_elim (λ k. both l k) (λ k. far l k) (cases_lt b (length xs))) (λ l. none l) (cases_lt a (min b (length xs)))
  where
    both : a < min b (length xs) → b < length xs → between (min a (min b (length xs))) (min b (length xs)) xs ≡ between a b xs
    both l k =
        let p : min b (length xs) ≡ b = omega arith in
        let q : min a (min b (length xs)) ≡ a = omega arith in
        rw (q, p)

    far : a < min b (length xs) → length xs ≤ b → between (min a (min b (length xs))) (min b (length xs)) xs ≡ between a b xs
    far l k =
        let p : min b (length xs) ≡ length xs = omega arith in
        let q : min a (min b (length xs)) ≡ a = omega arith in
        let d = length-drop a xs in
        rw (q, p) (take_all (length xs - a) (drop a xs) (omega arith) ∙ sym (take_all (b - a) (drop a xs) (omega arith)))

    none : min b (length xs) ≤ a → between (min a (min b (length xs))) (min b (length xs)) xs ≡ between a b xs
    none l =
        let q : min a (min b (length xs)) ≡ min b (length xs) = omega arith in
        let d = length-drop a xs in
        rw (q, between_none xs (min b (length xs))) (sym (nil_from_length (between a b xs) (omega (arith, length-take (b - a) (drop a xs)))))

-- a sum up to b is the sum up to a and the sum from a to b
pub sum_between : (xs : List ℕ) (a b : ℕ) → a ≤ b → sum (take b xs) ≡ sum (take a xs) + sum (between a b xs)
sum_between xs a b h =
    let e : a + (b - a) ≡ b = omega arith in
    let d : drop a (take b xs) ≡ between a b xs = subst (λ n. drop a (take n xs) ≡ between a b xs) e (drop-take a (b - a) xs) in
    let t : take a (take b xs) ≡ take a xs = take-take a b xs h in
    ap sum (sym (take-append-drop a (take b xs))) ∙ sum_by-append (λ x. x) (take a (take b xs)) (drop a (take b xs)) ∙ rw (d, t)

-- one element more
pub sum_more : (xs : List ℕ) (a i : ℕ) → a ≤ i → i < length xs → sum (between a (i + 1) xs) ≡ sum (between a i xs) + get_or xs i 0
sum_more xs a i h l =
    ap sum (between_more xs a i 0 h l) ∙ sum_by_push (λ x. x) (between a i xs) (get_or xs i 0)

-- a run of a list sums to no more than the list
pub sum_between_le : (xs : List ℕ) (a b : ℕ) → sum (between a b xs) ≤ sum xs
sum_between_le xs a b =
    omega (arith, sum_by-take-le (λ x. x) (drop a xs) (b - a), sum_by-take-drop (λ x. x) xs a)

-- a run of a list sums to no more than a run around it
pub sum_between_grows : (xs : List ℕ) (a b a' b' : ℕ) → a' ≤ a → a ≤ b → b ≤ b' → sum (between a b xs) ≤ sum (between a' b' xs)
sum_between_grows xs a b a' b' h l k =
    omega (arith, sum_between xs a b l, sum_between xs a' a h, sum_between xs b b' k, sum_between xs a' b' (omega arith))

module _ (s : Sparsity) where
  pub length_counts : length (row_counts s) ≡ row_count s
  length_counts = length-map s.rows length

  -- the entries of one row more
  pub entries_more : (a i : ℕ) → a ≤ i → i < row_count s → entries_between s a (i + 1) ≡ entries_between s a i + entry_count s i
  entries_more a i h l =
      sum_more (row_counts s) a i h (omega (arith, length_counts))
      ∙ ap (λ n. entries_between s a i + n) (get_or-map length s.rows i [] 0 l)

  -- rows past the last have no entries, and a run that ends before it begins has none
  pub entries_clipped : (a b : ℕ) → entries_between s (min a (min b (row_count s))) (min b (row_count s)) ≡ entries_between s a b
  entries_clipped a b =
      subst (λ n. sum (between (min a (min b n)) (min b n) (row_counts s)) ≡ entries_between s a b) length_counts
      (ap sum (between_clipped (row_counts s) a b))

  -- the entries of n rows, row after row
  entries_listed : (a n : ℕ) → a + n ≤ row_count s → sum (map (entry_count s) (range_with_len a n)) ≡ entries_between s a (a + n)
  entries_listed a zero h = rw (add-zero, between_none (row_counts s) a)
  entries_listed a (suc n) h =
      let f = entry_count s in
      let e : a + n + 1 ≡ a + (n + 1) = omega arith in
      let t : sum (map f (range_with_len a (n + 1))) ≡ sum (map f (range_with_len a n)) + f (a + n) =
      sum_by-map-range_with_len_more (λ x. x) f a n (a + n) refl in
      let u : sum (map f (range_with_len a (n + 1))) ≡ entries_between s a (a + (n + 1)) =
      rw (← e) (omega (arith, t, entries_listed a n (omega arith), entries_more a (a + n) (omega arith) (omega arith))) in
      subst (λ k. sum (map f (range_with_len a k)) ≡ entries_between s a (a + k)) (add-one n) u

  -- the same of the rows from `start` up to `end`, to which a and b are clipped
  pub entries_summed : (a b end start : ℕ) → end ≡ min b (row_count s) → start ≡ min a end
      → sum (map (entry_count s) (range_with_len start (end - start))) ≡ entries_between s a b
  entries_summed a b end start e f =
      let whole : start + (end - start) ≡ end = omega arith in
      entries_listed start (end - start) (omega arith) ∙ rw (whole, f, e) (entries_clipped a b)

  pub entries_few : Lawful s → (a b : ℕ) → entries_between s a b ≤ 16777216
  entries_few h a b = omega (arith, sum_between_le (row_counts s) a b, h.entries)
