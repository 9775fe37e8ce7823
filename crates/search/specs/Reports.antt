-- What a search reports.
use Rattle.std.specs.Prelude.{cond, nat_lt}
use Rattle.search.specs.declared.report.State.{State}
use Rattle.search.specs.declared.report.State.TheVariants.{Open, Settled, Missing}
use Rattle.search.specs.declared.report.Report.{Report}
use Rattle.search.specs.Play.{View}

-- open while the floor is below the standing figure; then settled where a cut stands, and missing where none does
abbrev pub state_of : View → State
state_of s = cond (nat_lt s.floor s.figure) Open (cond s.stands Settled Missing)

-- what a search reports
abbrev pub report_of : View → Report
report_of s = record {
  state = state_of s;
  floor = s.floor;
  figure = s.figure;
  advance_trials = s.advances;
  try_trials = s.tries;
  questions = s.questions;
}
