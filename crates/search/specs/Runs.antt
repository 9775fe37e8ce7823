-- Whole runs: what each call answers, and what holds of a run and of its parts.
use Rattle.std.specs.Prelude.{◌≡◌, ℕ, ◌+◌, ◌≤◌, min, Bool, true, false, cond, List, [], ◌∷◌, ◌++◌, length, take, replicate, Some, None, Ok, Err, Option, Result}
use Rattle.refusal.specs.declared.Refusal.{Refusal}
use Rattle.cost.specs.Price.{Price}
use Rattle.search.specs.declared.call.Call.{Call}
use Rattle.search.specs.declared.call.Call.TheVariants.{Advance, Try, Take, Tell}
use Rattle.search.specs.declared.call.Answer.{Answer}
use Rattle.search.specs.declared.call.Answer.TheVariants.{Advanced, Tried, Taken, Told}
use Rattle.search.specs.declared.report.Report.{Report}
use Rattle.search.specs.declared.played.Played.{Played}
use Rattle.search.specs.declared.played.Run.TheVariants.{First, Second}
use Rattle.search.specs.declared.played.Unopened.{Unopened}
use Rattle.search.specs.Trails.{Question}
use Rattle.search.specs.Play.{View, start, step, call_asks, play}
use Rattle.search.specs.Reports.{report_of}
use Rattle.search.specs.Answers.{open_refusal, advance_answer, try_answer, take_answer, taken}
use Rattle.search.specs.Law.{Law, standing}

-- what a call answers; a take has at most 1,025 places
abbrev pub answer_of : Price → ℕ → ℕ → Call → View → Answer
answer_of p K C (Advance n) s = Advanced (advance_answer p K n s)
answer_of p K C (Try c) s = Tried (try_answer p K C c s)
answer_of p K C (Take places) s = Taken (take_answer K s (min places 1025))
answer_of p K C Tell s = Told (report_of s)

-- the answer to the last of the calls, or the given one where there is no call
unfoldable pub last_answer : Price → ℕ → ℕ → List Call → View → Option Answer → Option Answer
last_answer p K C [] s given = given
last_answer p K C (x ∷ xs) s given = last_answer p K C xs (step p K C x s) (Some (answer_of p K C x s))

-- the questions of the calls, in order
unfoldable pub run_asks : Price → ℕ → ℕ → List Call → View → List Question
run_asks p K C [] s = []
run_asks p K C (x ∷ xs) s = call_asks p K C x s ++ run_asks p K C xs (step p K C x s)

-- what a take into 1,025 places that hold 0 leaves there, none where it is declined
abbrev pub placed : ℕ → View → Option (List ℕ)
placed K s = cond s.stands (Some (taken K s (replicate 1025 0))) None

-- the boundaries among those places
abbrev pub boundaries_of : ℕ → Option (List ℕ) → Option (List ℕ)
boundaries_of K (Some x) = Some (take (K + 1) x)
boundaries_of K None = None

-- what a run comes to
abbrev pub played_of : Price → ℕ → ℕ → List Call → Played
played_of p K C calls = record {
  report = report_of (play p K C calls);
  cut = placed K (play p K C calls);
  last = last_answer p K C calls (start C) None;
}

-- the report in an answer
abbrev pub report_in : Answer → Option Report
report_in (Advanced (Ok r)) = Some r
report_in (Advanced (Err e)) = None
report_in (Tried (Ok x)) = Some x.1
report_in (Tried (Err e)) = None
report_in (Taken r) = None
report_in (Told r) = Some r

-- the call was declined
abbrev pub declines : Answer → Bool
declines (Advanced (Ok r)) = false
declines (Advanced (Err e)) = true
declines (Tried (Ok x)) = false
declines (Tried (Err e)) = true
declines (Taken (Ok x)) = false
declines (Taken (Err e)) = true
declines (Told r) = false

-- a take, a tell or a declined call
abbrev pub idle : Price → ℕ → ℕ → Call → View → Bool
idle p K C (Advance n) s = declines (answer_of p K C (Advance n) s)
idle p K C (Try c) s = declines (answer_of p K C (Try c) s)
idle p K C (Take n) s = true
idle p K C Tell s = true

-- the calls without those
unfoldable pub busy : Price → ℕ → ℕ → List Call → View → List Call
busy p K C [] s = []
busy p K C (x ∷ xs) s = cond (idle p K C x s) (busy p K C xs (step p K C x s)) (x ∷ busy p K C xs (step p K C x s))

-- THE LAW OF A RUN, of what was returned after the calls
pub record RunLaw (p : Price) (K C : ℕ) (calls : List Call) (x : Played) : Type 0 where
  pub exact : x ≡ played_of p K C calls
  -- the law holds of the report and of the cut
  pub law : Law p K C calls x.report (boundaries_of K x.cut)
  -- and it held after every part of the run from its start on, the empty one too
  pub parts : (part rest : List Call) → part ++ rest ≡ calls → Law p K C part (report_of (play p K C part)) (standing (play p K C part))
  -- the floor never falls, and the figure never rises
  pub rises : (part rest : List Call) → part ++ rest ≡ calls → (play p K C part).floor ≤ x.report.floor
  pub falls : (part rest : List Call) → part ++ rest ≡ calls → x.report.figure ≤ (play p K C part).figure
  -- as many questions are reported as are put
  pub counted : x.report.questions ≡ length (run_asks p K C calls (start C))
  -- the last answer is that to the last call; a report in it is the report; if it was declined, nothing changed
  pub uncalled : calls ≡ [] → x.last ≡ None
  pub answered : (part : List Call) (call : Call) → part ++ (call ∷ []) ≡ calls → x.last ≡ Some (answer_of p K C call (play p K C part))
  pub told : (a : Answer) (r : Report) → x.last ≡ Some a → report_in a ≡ Some r → r ≡ x.report
  pub declined : (part : List Call) (call : Call) → part ++ (call ∷ []) ≡ calls → declines (answer_of p K C call (play p K C part)) ≡ true → play p K C calls ≡ play p K C part
  -- the run without its takes, tells and declined calls leads to the same
  pub without : play p K C (busy p K C calls (start C)) ≡ play p K C calls

-- two runs: the first search that cannot be opened and why, or what both come to
abbrev pub both_or : Option Refusal → Option Refusal → Played × Played → Result (Played × Played) Unopened
both_or (Some e) other both = Err (record { run = First; reason = e })
both_or None (Some e) both = Err (record { run = Second; reason = e })
both_or None None both = Ok both

-- what the comparison of two runs comes to
abbrev pub compared_of : Price → Price → ℕ → ℕ → List Call → ℕ → List Call → Result (Played × Played) Unopened
compared_of p q K C calls D others = both_or (open_refusal K C) (open_refusal K D) (played_of p K C calls, played_of q K D others)
