-- What the calls of a search answer.
use Rattle.std.specs.Prelude.{ℕ, ◌+◌, ◌^◌, ◌<◌, ◌≤◌, Bool, true, false, cond, ◌&&◌, List, ◌++◌, length, drop, Some, None, Ok, Err, Option, Result, nat_le, nat_lt}
use Rattle.refusal.specs.declared.Refusal.{Refusal}
use Rattle.refusal.specs.declared.Refusal.TheVariants as refusal
use Rattle.cost.specs.Price.{Price}
use Rattle.search.specs.declared.report.Report.{Report}
use Rattle.search.specs.Cuts.{Cut, cost_of}
use Rattle.search.specs.Trial.{succeeds}
use Rattle.search.specs.Play.{View, trial_at, tried, advanced, advance_ok}
use Rattle.search.specs.Reports.{report_of}

-- why no search is opened: first the number of blocks, then the ceiling
abbrev pub open_refusal : ℕ → ℕ → Option Refusal
open_refusal K C = cond (nat_le 1 K && nat_le K 1024) (cond (nat_lt C (2 ^ 60)) None (Some refusal.Ceiling)) (Some refusal.Blocks)

-- the report after the trials
abbrev pub advance_answer : Price → ℕ → ℕ → View → Result Report Refusal
advance_answer p K n s = cond (advance_ok n) (Ok (report_of (advanced p K n s))) (Err refusal.Count)

-- below the floor no, from the standing figure on yes, and between them what a trial says, if tries are left
abbrev pub try_answer : Price → ℕ → ℕ → ℕ → View → Result (Bool × Report) Refusal
try_answer p K C c s =
    cond (nat_lt C c) (Err refusal.Ceiling)
    (cond (nat_lt c s.floor) (Ok (false, report_of s))
    (cond (nat_le s.figure c) (Ok (true, report_of s))
    (cond (nat_lt s.tries 65535) (Ok (succeeds p.rows K (trial_at p K c), report_of (tried p K c false s))) (Err refusal.Count))))

-- of a take into a buffer of so many places
abbrev pub take_answer : ℕ → View → ℕ → Result (Unit {0}) Refusal
take_answer K s places = cond s.stands (cond (nat_lt places (K + 1)) (Err refusal.Short) (Ok tt)) (Err refusal.NoCut)

-- what the buffer then holds
abbrev pub taken : ℕ → View → List ℕ → List ℕ
taken K s out = cond s.stands (cond (nat_lt (length out) (K + 1)) out (s.cut ++ drop (K + 1) out)) out

-- the answer of a try is true: yes where some cut costs c or less, no where none does
abbrev pub Told : Price → ℕ → ℕ → Result (Bool × Report) Refusal → Type 0
Told p K c (Ok (true, r)) = (cut : List ℕ) × (Cut p.rows K cut × (cost_of p K cut ≤ c))
Told p K c (Ok (false, r)) = (cut : List ℕ) → Cut p.rows K cut → c < cost_of p K cut
Told p K c (Err e) = Unit {0}
