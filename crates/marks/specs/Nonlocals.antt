-- The columns that a block needs and does not own.
use Rattle.std.specs.Prelude.{ℕ, not, ◌&&◌, List}
use Rattle.owners.specs.Owned.{owned_by}
use Rattle.pattern.specs.Columns.{among, columns_in, size_below}
use Rattle.pattern.specs.Sparsity.{Sparsity}

-- how many distinct columns the rows from a up to, not including, b have that block k does not own
abbrev pub nonlocal_columns : Sparsity → List ℕ → ℕ → ℕ → ℕ → ℕ
nonlocal_columns s owners k a b = size_below s.column_count (λ c. among (columns_in s a b) c && not (owned_by owners k c))
