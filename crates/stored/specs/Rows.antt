-- Compressed sparse rows: where a row stands among the columns, how many entries runs of rows have, and the law.
use Rattle.std.specs.Prelude.{◌≡◌, ℕ, zero, suc, ◌+◌, ◌-◌, ◌<◌, ◌≤◌, List, [], length, take, sum, slice_index, slice_index_or}
use Rattle.std.proofs.Common.{sym, ap, subst, ◌∙◌, ⊎_elim, add-zero, le_refl, arith}
use Rattle.std.specs.List.{between}
use Rattle.std.specs.List.Sorted.{IsStrictlyIncreasing}
use Rattle.std.proofs.lemmas.List.FromFn.{length-map-range_with_len, get_or-map-range_with_len}
use Rattle.std.proofs.lemmas.List.Edits.{length-between, get_or-between}
use Rattle.std.proofs.lemmas.List.{get_or_past, get_or-map, length-map, take_all}
use Rattle.std.proofs.lemmas.List.Sums.{sum_by_more}
use Rattle.std.proofs.lemmas.Bool.{cases_lt}
use Rattle.pattern.specs.Sparsity.{Lawful, RowOrdered, Ordered, row_at, row_count, row_counts, entry_count, entries_between}
use Rattle.pattern.proofs.Spans.{sum_between}
use Rattle.stored.specs.Csr.{csr, csr_row, Sized, Framed, Climbing}

-- a later start is no smaller
climbs : (starts : List ℕ) → Climbing starts → (i d : ℕ) → i + d < length starts → slice_index starts i ≤ slice_index starts (i + d)
climbs starts up i zero h = rw add-zero (le_refl (slice_index starts i))
climbs starts up i (suc d) h =
    let a : slice_index_or starts i 0 ≤ slice_index_or starts (i + d) 0 = climbs starts up i d (omega arith) in
    let e : (i + d) + 1 ≡ i + suc d = omega arith in
    let b : slice_index_or starts (i + d) 0 ≤ slice_index_or starts (i + suc d) 0 = rw e at (up (i + d) (omega arith)) in
    omega arith

pub climbs_to : (starts : List ℕ) → Climbing starts → (i j : ℕ) → i ≤ j → j < length starts → slice_index starts i ≤ slice_index starts j
climbs_to starts up i j h l =
    let e : i + (j - i) ≡ j = omega arith in
    rw e at (climbs starts up i (j - i) (omega arith))

-- an empty row is in order
no_entry : (n : ℕ) → RowOrdered n []
no_entry n = (λ k h. absurd (none k h), λ k h. absurd (none (k + 1) h))
  where
    none : (k : ℕ) → k < length {A = ℕ} [] → ⊥
    none k h = omega arith

module _ (n : ℕ) (starts columns : List ℕ) where
  pub height_is : row_count (csr n starts columns) ≡ length starts - 1
  height_is = length-map-range_with_len (csr_row starts columns) 0 (length starts - 1)

  pub row_is : (i : ℕ) → i + 1 < length starts → row_at (csr n starts columns) i ≡ csr_row starts columns i
  row_is i h = get_or-map-range_with_len (csr_row starts columns) 0 (length starts - 1) i i [] (omega arith) (omega arith)

  pub row_past : (i : ℕ) → length starts ≤ i + 1 → row_at (csr n starts columns) i ≡ []
  row_past i h = get_or_past (csr n starts columns).rows i [] (omega (arith, height_is))

  -- rows are in order where each that is there is
  pub ordered_from : ((i : ℕ) → i + 1 < length starts → RowOrdered n (csr_row starts columns i)) → Ordered (csr n starts columns)
  ordered_from h i = ⊎_elim (λ l. rw (row_is i l) (h i l)) (λ l. rw (row_past i l) (no_entry n)) (cases_lt (i + 1) (length starts))

module _ (n : ℕ) (starts columns : List ℕ) (f : Framed starts columns) (up : Climbing starts) where
  pub start_le : (i : ℕ) → i < length starts → slice_index starts i ≤ length columns
  start_le i h =
      omega (arith, climbs_to starts up i (length starts - 1) (omega arith) (omega arith))

  pub count_is : (i : ℕ) → i + 1 < length starts → entry_count (csr n starts columns) i ≡ slice_index starts (i + 1) - slice_index starts i
  count_is i h =
      rw (row_is n starts columns i h)
      (length-between columns (slice_index starts i) (slice_index starts (i + 1)) (start_le (i + 1) h))

  -- no row has more entries than are listed
  pub count_le : (i : ℕ) → entry_count (csr n starts columns) i ≤ length columns
  count_le i =
      ⊎_elim
      (λ l. omega (arith, count_is i l, start_le (i + 1) l))
      (λ l. rw (row_past n starts columns i l) (omega arith))
      (cases_lt (i + 1) (length starts))

  -- the rows before row i have as many entries as start i says
  before : (i : ℕ) → i < length starts → sum (take i (row_counts (csr n starts columns))) ≡ slice_index starts i
  before zero h = sym f.1
  before (suc i) h =
      let s = csr n starts columns in
      let e : suc i ≡ i + 1 = omega arith in
      let l : i < length (row_counts s) = omega (arith, length-map s.rows length, height_is n starts columns) in
      let m : sum (take (i + 1) (row_counts s)) ≡ sum (take i (row_counts s)) + slice_index_or (row_counts s) i 0 =
      sum_by_more (λ x. x) (row_counts s) i 0 l in
      let c : slice_index_or (row_counts s) i 0 ≡ entry_count s i =
      get_or-map length s.rows i [] 0 (omega (arith, height_is n starts columns)) in
      let g : sum (take (i + 1) (row_counts s)) ≡ slice_index_or starts (i + 1) 0 =
      omega (arith, before i (omega arith), count_is i (omega arith), up i (omega arith)) in
      subst (λ k. sum (take k (row_counts s)) ≡ slice_index starts k) (sym e) g

  pub entries_is : (a b : ℕ) → a ≤ b → b < length starts
      → slice_index starts b - slice_index starts a ≡ entries_between (csr n starts columns) a b
  entries_is a b h l =
      omega (arith, sum_between (row_counts (csr n starts columns)) a b h, before a (omega arith), before b l)

  total : sum (row_counts (csr n starts columns)) ≡ length columns
  total =
      let s = csr n starts columns in
      let m = length starts - 1 in
      let t : take m (row_counts s) ≡ row_counts s =
      take_all m (row_counts s) (omega (arith, length-map s.rows length, height_is n starts columns)) in
      ap sum (sym t) ∙ before m (omega arith) ∙ f.2

  pub lawful : Sized n starts columns → Ordered (csr n starts columns) → Lawful (csr n starts columns)
  lawful size order = record {
    height = omega (arith, height_is n starts columns, size.0);
    width = size.1;
    entries = omega (arith, total, size.2);
    ordered = order;
  }

-- a list that begins with start i and the next one
pub record Bounds (starts : List ℕ) (i : ℕ) (w : List ℕ) : Type 0 where
  pub within : i + 1 < length starts
  pub from : slice_index w 0 ≡ slice_index starts i
  pub to : slice_index w 1 ≡ slice_index starts (i + 1)

pub bounds_at : (starts : List ℕ) (i : ℕ) (w : List ℕ) → 2 ≤ length w → w ≡ between i (length starts) starts → length w + i ≡ length starts
    → Bounds starts i w
bounds_at starts i w two e l = record {
  within = omega arith;
  from = rw e (get_or-between starts i (length starts) 0 0 (omega arith) ∙ ap (λ k. slice_index starts k) (omega arith));
  to = rw e (get_or-between starts i (length starts) 1 0 (omega arith));
}

-- the same of a window of two, where so many starts are left
pub bounds_in : (starts : List ℕ) (left size : ℕ) (w : List ℕ) → size ≡ 2 → size ≤ left → left ≤ length starts
    → ((k d : ℕ) → k < size → slice_index_or w k d ≡ slice_index_or starts (length starts - left + k) d) → Bounds starts (length starts - left) w
bounds_in starts left size w two some l at = record {
  within = omega arith;
  from = at 0 0 (omega arith) ∙ ap (λ k. slice_index starts k) (omega arith);
  to = at 1 0 (omega arith);
}

-- what they say of the row
module _ (n : ℕ) (starts columns : List ℕ) (f : Framed starts columns) (up : Climbing starts) (i : ℕ) (w : List ℕ) (b : Bounds starts i w) where
  pub bounds_end : slice_index w 1 ≤ length columns
  bounds_end = rw b.to (start_le n starts columns f up (i + 1) b.within)

  pub bounds_csr : between (slice_index w 0) (slice_index w 1) columns ≡ csr_row starts columns i
  bounds_csr = rw (b.from, b.to)

  pub bounds_row : between (slice_index w 0) (slice_index w 1) columns ≡ row_at (csr n starts columns) i
  bounds_row = bounds_csr ∙ sym (row_is n starts columns i b.within)

-- a row that rises and whose last column is in range is in order
pub rising_ordered : (n : ℕ) (row : List ℕ) → IsStrictlyIncreasing row → (0 < length row → slice_index row (length row - 1) < n) → RowOrdered n row
rising_ordered n row up last = (λ k h. omega (arith, climbs_to row (λ i l. omega (arith, up i l)) k (length row - 1) (omega arith) (omega arith), last (omega arith)), up)
