-- The counted cost: what the words of a counting table tell of a pattern, priced.
use Rattle.std.specs.Prelude.{ℕ, ◌-◌, List}
use Rattle.cost.specs.Price.{Price}
use Rattle.table.specs.Openings.{words_of}
use Rattle.table.specs.Told.{told_distinct, told_rows, told_start}
use Rattle.pricing.specs.Counts.{Counts, priced}
use Rattle.pricing.specs.declared.priced.Priced.{Priced}
use Rattle.table.specs.declared.opened.Opened.{Opened}

-- counted: the same as scanned, as the words of a counting table tell it
abbrev pub told_counts : List ℕ → Counts
told_counts ws = record {
  rows = told_rows ws;
  entries = λ a b. told_start ws b - told_start ws a;
  columns = λ k a b. told_distinct ws a b;
}

abbrev pub told_price : ℕ → ℕ → ℕ → List ℕ → Price
told_price R E Q ws = priced R E Q (told_counts ws)

abbrev pub counted_of : {P : Type 0} → Priced (Opened P) → Price
counted_of x = told_price x.weights.row x.weights.entry x.weights.column (words_of x.counted)
