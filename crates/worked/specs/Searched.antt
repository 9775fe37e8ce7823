-- What a search over the sample comes to: scanned, at 1 a row, 1 an entry and 2 a column.
use Rattle.std.specs.Prelude.{◌≡◌, ℕ, [], ◌∷◌, Some, None}
use Rattle.pricing.specs.Columns.{scanned_price}
use Rattle.search.specs.Law.{standing}
use Rattle.search.specs.Play.{View, halfway, play}
use Rattle.search.specs.Reports.{report_of}
use Rattle.search.specs.declared.call.Call.TheVariants.{Advance}
use Rattle.search.specs.declared.report.State.TheVariants.{Settled, Missing}
use Rattle.stored.specs.Csr.{csr}
use Rattle.worked.specs.Sample.{scanned_sample}

-- two blocks up to 31, and up to 11, after an advance by n
abbrev pub up_to31 : ℕ → View
up_to31 n = play scanned_sample 2 31 (Advance n ∷ [])

abbrev pub up_to11 : ℕ → View
up_to11 n = play scanned_sample 2 11 (Advance n ∷ [])

-- one block of no rows
abbrev pub no_rows : View
no_rows = play (scanned_price 1 1 2 (csr 4 (0 ∷ []) [])) 1 31 (Advance 64 ∷ [])

pub record Searched : Type 0 where
  -- the trials are at 16, 6, 9 and 11
  pub first : halfway (play scanned_sample 2 31 []) ≡ 16
  pub second : halfway (up_to31 1) ≡ 6
  pub third : halfway (up_to31 2) ≡ 9
  pub fourth : halfway (up_to31 3) ≡ 11
  -- after the first the figure is the cut's cost, not its target
  pub cost_kept : (up_to31 1).figure ≡ 12
  pub settled : report_of (up_to31 64) ≡ record { state = Settled; floor = 12; figure = 12; advance_trials = 4; try_trials = 0; questions = 18 }
  pub cut : standing (up_to31 64) ≡ Some (0 ∷ 2 ∷ 4 ∷ [])
  pub missing : report_of (up_to11 64) ≡ record { state = Missing; floor = 12; figure = 12; advance_trials = 3; try_trials = 0; questions = 14 }
  pub no_cut : standing (up_to11 64) ≡ None
  pub no-rows : standing no_rows ≡ Some (0 ∷ 0 ∷ [])
