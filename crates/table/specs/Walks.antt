-- A walk over the entries of a pattern, row after row, with a window of columns.
use Rattle.std.specs.Prelude.{◌≡◌, ℕ, suc, ◌+◌, ◌<◌, ◌≤◌, Bool, cond, ◌&&◌, List, length, take, Some, None, Option, nat_le, nat_lt, slice_index, slice_index_or}
use Rattle.pattern.specs.Columns.{among, columns_in}
use Rattle.pattern.specs.Sparsity.{Sparsity, entries_between, entry_count, row_at, row_count}
use Rattle.table.specs.Codes.{code, codes}
use Rattle.table.specs.declared.batch.Batch.{Batch}
use Rattle.table.specs.declared.cursor.Cursor.{Cursor}

-- the column of entry q of all entries; the number of columns past the last
abbrev pub column_of : Sparsity → ℕ → ℕ
column_of s q = slice_index_or (columns_in s 0 (row_count s)) q s.column_count

-- whether column c is one of the w columns from `first` on
abbrev pub windowed : ℕ → ℕ → ℕ → Bool
windowed first w c = nat_le first c && nat_lt c (first + w)

-- the code of entry q, if its column is in the window
abbrev pub shown : Sparsity → ℕ → ℕ → ℕ → Option ℕ
shown s first w q = cond (windowed first w (column_of s q)) (Some (slice_index (codes s) q)) None

-- the entry that a cursor is at
abbrev pub position : Sparsity → Cursor → ℕ
position s c = entries_between s 0 c.row + c.place

-- a cursor that is within the pattern
pub record Stands (s : Sparsity) (c : Cursor) : Type 0 where
  pub within : c.row ≤ row_count s
  pub sized : c.size ≡ entry_count s c.row
  pub placed : c.place ≤ c.size

-- the window has for each of its columns the nearest row before the cursor that has it, plus 1
abbrev pub Knows : Sparsity → Cursor → ℕ → List ℕ → Type 0
Knows s c first window =
    (d : ℕ) → d < length window
    → slice_index window d ≡ cond (among (take c.place (row_at s c.row)) (first + d)) (suc c.row) (code s c.row (first + d))

-- a batch of entries from q on: the codes of those of the first `count` that are in the window
abbrev pub Batched : Sparsity → ℕ → ℕ → ℕ → ℕ → Batch → Type 0
Batched s first w q count b =
    (k : ℕ) → k < 64 → slice_index_or b.found k None ≡ cond (nat_lt k count) (shown s first w (q + k)) None
