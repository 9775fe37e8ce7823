-- What combinations of costs mean. Both parts have equally many rows, which the constructors see to; the definitions speak
-- of the rows that both have.
use Rattle.std.specs.Prelude.{ℕ, ◌+◌, ◌*◌, ◌≤◌, min, max, Bool, cond, nat_le}
use Rattle.cost.specs.Price.{Price, greatest_figure}

-- a figure, or the greatest there is where it would be above that
abbrev pub capped : ℕ → ℕ
capped figure = min figure greatest_figure

-- two costs as one, whose figures are joined
abbrev pub joined_price : (ℕ → ℕ → ℕ) → Price → Price → Price
joined_price join p q = record { rows = min p.rows q.rows; figure = λ k a b. join (p.figure k a b) (q.figure k a b) }

-- two figures added
abbrev pub added : ℕ → ℕ → ℕ
added m n = capped (m + n)

-- both figures added
abbrev pub sum_price : Price → Price → Price
sum_price = joined_price added

-- the larger figure
abbrev pub greater_price : Price → Price → Price
greater_price = joined_price max

-- a factor is at most 1,000,000
abbrev pub Factor : ℕ → Type 0
Factor factor = factor ≤ 1000000

-- the figure so many times
abbrev pub times_price : ℕ → Price → Price
times_price factor p = record { rows = p.rows; figure = λ k a b. capped (factor * p.figure k a b) }

-- a block is barred where its measured figure is the limit or more
abbrev pub bars : ℕ → ℕ → Bool
bars limit measured = nat_le limit measured

-- the greatest figure for a barred block, and the figure of the base for any other
abbrev pub limit_price : ℕ → Price → Price → Price
limit_price limit measure base = record {
  rows = min measure.rows base.rows;
  figure = λ k a b. cond (bars limit (measure.figure k a b)) greatest_figure (base.figure k a b);
}
