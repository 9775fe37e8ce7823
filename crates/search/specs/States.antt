-- The number of each state of a search: open 1, settled 2, missing 3.
use Rattle.std.specs.Prelude.{ℕ}
use Rattle.search.specs.declared.report.State.{State}
use Rattle.search.specs.declared.report.State.TheVariants.{Open, Settled, Missing}

abbrev pub state_number : State → ℕ
state_number Open = 1
state_number Settled = 2
state_number Missing = 3
