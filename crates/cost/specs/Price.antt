-- What a cost means, and what holds of every one.
use Rattle.std.specs.Prelude.{◌≡◌, ◌⊎◌, ℕ, min, ◌^◌, ◌≤◌, ◌<◌}

-- a number of rows, and the figure of each block number over the rows from a up to, not including, b
pub record Price : Type 0 where
  pub rows : ℕ
  pub figure : ℕ → ℕ → ℕ → ℕ

-- no figure is above this one
abbrev pub greatest_figure : ℕ
greatest_figure = 2 ^ 60

-- the rows a to b lie inside the rows a' to b'; no rows at all lie inside any rows
abbrev pub Inside : ℕ → ℕ → ℕ → ℕ → Type 0
Inside a b a' b' = (a ≡ b) ⊎ ((a' ≤ a) × (b ≤ b'))

-- block number k is a 32-bit number, and the rows a to b are rows of the cost
abbrev pub Block : Price → ℕ → ℕ → ℕ → Type 0
Block p k a b = (k < 2 ^ 32) × (a ≤ b) × (b ≤ p.rows)

-- what holds of every cost
pub record Lawful (p : Price) : Type 0 where
  pub few : p.rows ≤ 1000000
  pub small : (k a b : ℕ) → Block p k a b → p.figure k a b ≤ greatest_figure
  -- for one block number, rows inside other rows never have the greater figure
  pub grows : (k a b a' b' : ℕ) → Block p k a b → Block p k a' b' → Inside a b a' b' → p.figure k a b ≤ p.figure k a' b'

-- the figure that a question at any a and b is answered with: first b is clipped to the rows, then a to b
abbrev pub asked : Price → ℕ → ℕ → ℕ → ℕ
asked p k a b = p.figure k (min a (min b p.rows)) (min b p.rows)

-- as many rows, and equal figures
pub record SameFigures (p q : Price) : Type 0 where
  pub rows : q.rows ≡ p.rows
  pub figures : (k a b : ℕ) → Block p k a b → q.figure k a b ≡ p.figure k a b
