-- The front of a table: the sizes, and the row starts after them.
use Rattle.std.specs.Prelude.{◌≡◌, ℕ, ◌+◌, ◌-◌, ◌≤◌, List, map, slice_index}
use Rattle.std.specs.List.{range_with_len}
use Rattle.pattern.specs.Sparsity.{Sparsity, entries_between, row_count}
use Rattle.table.specs.Words.{total_entries}

-- the first three words are the rows, the columns and the entries
abbrev pub Sized : Sparsity → List ℕ → Type 0
Sized s ws = (slice_index ws 0 ≡ row_count s) × (slice_index ws 1 ≡ s.column_count) × (slice_index ws 2 ≡ total_entries s)

-- the rows from row i on, with how many entries come before each; past the last row, how many there are
abbrev pub starts_from : Sparsity → ℕ → List (ℕ × ℕ)
starts_from s i = map (λ j. (j, entries_between s 0 j)) (range_with_len i (row_count s + 1 - i))

-- after them stands for each row how many entries come before it, and how many there are
abbrev pub Started : Sparsity → List ℕ → Type 0
Started s ws = (i : ℕ) → i ≤ row_count s → slice_index ws (3 + i) ≡ entries_between s 0 i
