-- What is counted in blocks of rows, what holds of every such count, and its price.
use Rattle.std.specs.Prelude.{ℕ, ◌+◌, ◌-◌, ◌*◌, ◌≤◌}
use Rattle.cost.specs.Price.{Inside, Price}

-- a number of rows, how many entries the rows from a up to, not including, b have, and how many columns count there for
-- block k
pub record Counts : Type 0 where
  pub rows : ℕ
  pub entries : ℕ → ℕ → ℕ
  pub columns : ℕ → ℕ → ℕ → ℕ

-- the rows a to b are rows of the count
abbrev pub Run : Counts → ℕ → ℕ → Type 0
Run c a b = (a ≤ b) × (b ≤ c.rows)

-- what holds of every count
pub record LawfulCounts (c : Counts) : Type 0 where
  pub few_rows : c.rows ≤ 1000000
  pub few_entries : (a b : ℕ) → Run c a b → c.entries a b ≤ 16777216
  pub few_columns : (k a b : ℕ) → Run c a b → c.columns k a b ≤ 1000000
  -- rows inside other rows never have more entries, nor more columns that count for one block
  pub entries_grow : (a b a' b' : ℕ) → Run c a b → Run c a' b' → Inside a b a' b' → c.entries a b ≤ c.entries a' b'
  pub columns_grow : (k a b a' b' : ℕ) → Run c a b → Run c a' b' → Inside a b a' b' → c.columns k a b ≤ c.columns k a' b'

-- R for each row of a block, E for each entry and Q for each column that counts
abbrev pub priced : ℕ → ℕ → ℕ → Counts → Price
priced R E Q c = record { rows = c.rows; figure = λ k a b. R * (b - a) + E * c.entries a b + Q * c.columns k a b }
