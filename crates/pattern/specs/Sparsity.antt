-- What a sparsity pattern means, and what holds of every one.
use Rattle.std.specs.Prelude.{ℕ, ◌+◌, ◌<◌, ◌≤◌, List, [], map, length, sum, slice_index, slice_index_or}
use Rattle.std.specs.List.{between}

-- for each row the list of its columns, and how many columns there are; both are counted from 0
pub record Sparsity : Type 0 where
  pub rows : List (List ℕ)
  pub column_count : ℕ

abbrev pub row_count : Sparsity → ℕ
row_count s = length s.rows

-- the columns of row i; none from the number of rows on
abbrev pub row_at : Sparsity → ℕ → List ℕ
row_at s i = slice_index_or s.rows i []

abbrev pub entry_count : Sparsity → ℕ → ℕ
entry_count s i = length (row_at s i)

-- the column at a place in row i; the number of columns past the row's end
abbrev pub column_at : Sparsity → ℕ → ℕ → ℕ
column_at s i place = slice_index_or (row_at s i) place s.column_count

-- how many entries each row has, row by row
abbrev pub row_counts : Sparsity → List ℕ
row_counts s = map length s.rows

-- how many entries the rows from a up to, not including, b have
abbrev pub entries_between : Sparsity → ℕ → ℕ → ℕ
entries_between s a b = sum (between a b (row_counts s))

-- the columns of one row: each is below n, and above the one before it
abbrev pub RowOrdered : ℕ → List ℕ → Type 0
RowOrdered n row =
    ((place : ℕ) → place < length row → slice_index row place < n)
    × ((place : ℕ) → place + 1 < length row → slice_index row place < slice_index row (place + 1))

-- the same of each row
abbrev pub Ordered : Sparsity → Type 0
Ordered s = (i : ℕ) → RowOrdered s.column_count (row_at s i)

-- what holds of every pattern
pub record Lawful (s : Sparsity) : Type 0 where
  pub height : row_count s ≤ 1000000
  pub width : s.column_count ≤ 1000000
  pub entries : sum (row_counts s) ≤ 16777216
  pub ordered : Ordered s
