-- How long machines of unequal speed take.
use Rattle.std.specs.Prelude.{ℕ, ◌+◌, ◌*◌, min, List, length, sum, slice_index}
use Rattle.std.specs.List.{between}
use Rattle.cost.specs.Price.{Price, greatest_figure}

-- machine k over the rows from a up to, not including, b, at most the greatest figure; a machine that is not listed takes
-- no time
abbrev pub machine_price : List ℕ → List ℕ → List ℕ → Price
machine_price weights starts slowness = record {
  rows = length weights;
  figure = λ k a b. min (slice_index starts k + slice_index slowness k * sum (between a b weights)) greatest_figure;
}
