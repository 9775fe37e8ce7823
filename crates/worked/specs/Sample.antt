-- The sample matrix, 4 by 4, and a smaller one off the diagonal.
use Rattle.std.specs.Prelude.{[], ◌∷◌}
use Rattle.cost.specs.Price.{Price}
use Rattle.pattern.specs.Sparsity.{Sparsity}
use Rattle.pricing.specs.Columns.{nonlocal_price, scanned_price}
use Rattle.pricing.specs.Works.{work_price}
use Rattle.stored.specs.Csr.{csr}

-- rows {0, 1}, {1}, {0, 2, 3} and {3}
abbrev pub sample : Sparsity
sample = csr 4 (0 ∷ 2 ∷ 3 ∷ 6 ∷ 7 ∷ []) (0 ∷ 1 ∷ 1 ∷ 0 ∷ 2 ∷ 3 ∷ 3 ∷ [])

-- rows {1}, {} and {0} of three columns
abbrev pub corner : Sparsity
corner = csr 3 (0 ∷ 1 ∷ 1 ∷ 2 ∷ []) (1 ∷ 0 ∷ [])

-- at 1 a row, 1 an entry and 2 a column
abbrev pub scanned_sample : Price
scanned_sample = scanned_price 1 1 2 sample

-- the same, with columns 0 and 1 owned by block 0 and columns 2 and 3 by block 1
abbrev pub nonlocal_sample : Price
nonlocal_sample = nonlocal_price 1 1 2 sample (0 ∷ 0 ∷ 1 ∷ 1 ∷ [])

-- the number of entries
abbrev pub entries_sample : Price
entries_sample = work_price 0 1 sample
