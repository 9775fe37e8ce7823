-- The costs that count the columns of a block.
use Rattle.std.specs.Prelude.{ℕ, List}
use Rattle.cost.specs.Price.{Price}
use Rattle.marks.specs.Nonlocals.{nonlocal_columns}
use Rattle.pattern.specs.Columns.{columns_and_rows, distinct_columns}
use Rattle.pattern.specs.Sparsity.{Sparsity, entries_between, row_count}
use Rattle.pricing.specs.Counts.{Counts, priced}

-- the rows and the entries of a pattern, and the columns that `count` finds for block k over the rows from a up to, not
-- including, b
abbrev pub pattern_counts : Sparsity → (ℕ → ℕ → ℕ → ℕ) → Counts
pattern_counts s count = record { rows = row_count s; entries = λ a b. entries_between s a b; columns = count }

-- work, and Q for each of those columns
abbrev pub counted_price : ℕ → ℕ → ℕ → Sparsity → (ℕ → ℕ → ℕ → ℕ) → Price
counted_price R E Q s count = priced R E Q (pattern_counts s count)

-- scanned: the distinct columns of the rows
abbrev pub scanned_price : ℕ → ℕ → ℕ → Sparsity → Price
scanned_price R E Q s = counted_price R E Q s (λ k a b. distinct_columns s a b)

-- footprint: the union of those columns and of the row numbers
abbrev pub footprint_price : ℕ → ℕ → ℕ → Sparsity → Price
footprint_price R E Q s = counted_price R E Q s (λ k a b. columns_and_rows s a b)

-- nonlocal: those columns that block k does not own
abbrev pub nonlocal_price : ℕ → ℕ → ℕ → Sparsity → List ℕ → Price
nonlocal_price R E Q s owners = counted_price R E Q s (λ k a b. nonlocal_columns s owners k a b)
