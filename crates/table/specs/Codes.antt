-- The codes of a pattern's entries: for each entry the nearest earlier row that has its column.
use Rattle.std.specs.Prelude.{ℕ, zero, suc, cond, List, [], ◌++◌, map}
use Rattle.pattern.specs.Columns.{among}
use Rattle.pattern.specs.Sparsity.{Sparsity, row_at, row_count}

-- the nearest of the first i rows that has column c, plus 1; 0 where none has it
unfoldable pub code : Sparsity → ℕ → ℕ → ℕ
code s zero c = 0
code s (suc i) c = cond (among (row_at s i) c) (suc i) (code s i c)

-- the codes of the entries of the first i rows, row after row
unfoldable pub codes_to : Sparsity → ℕ → List ℕ
codes_to s zero = []
codes_to s (suc i) = codes_to s i ++ map (code s i) (row_at s i)

-- the codes of all entries
abbrev pub codes : Sparsity → List ℕ
codes s = codes_to s (row_count s)
