-- Which columns runs of rows have, and how many distinct ones.
use Rattle.std.specs.Prelude.{ℕ, zero, suc, ◌+◌, Bool, false, cond, ◌&&◌, ◌||◌, List, [], ◌∷◌, ◌==◌, nat_le, nat_lt}
use Rattle.std.specs.List.{between, flat_map}
use Rattle.pattern.specs.Sparsity.{Sparsity}

-- the columns of the rows from a up to, not including, b, row after row; one that several rows have stands several times
abbrev pub columns_in : Sparsity → ℕ → ℕ → List ℕ
columns_in s a b = flat_map (λ row. row) (between a b s.rows)

-- whether c is one of the numbers
abbrev pub among : List ℕ → ℕ → Bool
among [] c = false
among (x ∷ xs) c = x == c || among xs c

-- the size of a set of numbers below n: how many of 0 to n - 1 are in it
abbrev pub size_below : ℕ → (ℕ → Bool) → ℕ
size_below zero member = 0
size_below (suc n) member = size_below n member + cond (member n) 1 0

-- how many distinct columns the rows from a up to, not including, b have
abbrev pub distinct_columns : Sparsity → ℕ → ℕ → ℕ
distinct_columns s a b = size_below s.column_count (among (columns_in s a b))

-- whether c is one of the row numbers from a up to, not including, b
abbrev pub row_number : ℕ → ℕ → ℕ → Bool
row_number a b c = nat_le a c && nat_lt c b

-- how large the union of those columns and of the row numbers themselves is
abbrev pub columns_and_rows : Sparsity → ℕ → ℕ → ℕ
columns_and_rows s a b = size_below s.column_count (λ c. among (columns_in s a b) c || row_number a b c)
