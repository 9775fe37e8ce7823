-- The cost of the work of a block: its rows and its entries, each at a weight.
use Rattle.std.specs.Prelude.{ℕ, ◌+◌, ◌-◌, ◌*◌, ◌≤◌, List, sum}
use Rattle.std.specs.List.{between}
use Rattle.cost.specs.Price.{Price}
use Rattle.pattern.specs.Sparsity.{Sparsity, row_count, row_counts}

-- the weight of a row, an entry or a column is at most 1,000,000
abbrev pub Weight : ℕ → Type 0
Weight w = w ≤ 1000000

-- R for each row from a up to, not including, b, and E for each of their entries; counts says how many entries each row has
abbrev pub work : ℕ → ℕ → List ℕ → ℕ → ℕ → ℕ
work R E counts a b = R * (b - a) + E * sum (between a b counts)

-- the work over a pattern, the same for every block number
abbrev pub work_price : ℕ → ℕ → Sparsity → Price
work_price R E s = record { rows = row_count s; figure = λ k a b. work R E (row_counts s) a b }
