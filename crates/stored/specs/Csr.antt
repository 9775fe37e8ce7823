-- Compressed sparse rows: the columns of all rows one after another, and where each row starts among them.
use Rattle.std.specs.Prelude.{◌≡◌, ℕ, ◌+◌, ◌-◌, ◌<◌, ◌≤◌, List, map, length, slice_index}
use Rattle.std.specs.List.{range_with_len, between}
use Rattle.pattern.specs.Sparsity.{Sparsity}

-- row i has the columns from start i up to, not including, start i + 1
abbrev pub csr_row : List ℕ → List ℕ → ℕ → List ℕ
csr_row starts columns i = between (slice_index starts i) (slice_index starts (i + 1)) columns

-- n columns, and one row less than there are starts
abbrev pub csr : ℕ → List ℕ → List ℕ → Sparsity
csr n starts columns = record { rows = map (csr_row starts columns) (range_with_len 0 (length starts - 1)); column_count = n }

-- at most 1,000,000 rows, 1,000,000 columns and 16,777,216 entries
abbrev pub Sized : ℕ → List ℕ → List ℕ → Type 0
Sized n starts columns = (length starts ≤ 1000001) × (n ≤ 1000000) × (length columns ≤ 16777216)

-- there is a start, the first is 0 and the last is the number of entries
abbrev pub Framed : List ℕ → List ℕ → Type 0
Framed starts columns = (0 < length starts) × (slice_index starts 0 ≡ 0) × (slice_index starts (length starts - 1) ≡ length columns)

-- no start is below the one before it
abbrev pub Climbing : List ℕ → Type 0
Climbing starts = (i : ℕ) → i + 1 < length starts → slice_index starts i ≤ slice_index starts (i + 1)

-- the rule of the sizes and the row starts
abbrev pub Shaped : ℕ → List ℕ → List ℕ → Type 0
Shaped n starts columns = Sized n starts columns × Framed starts columns × Climbing starts
