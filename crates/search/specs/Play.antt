-- A search as its calls change it.
use Rattle.std.specs.Prelude.{◌≡◌, ℕ, zero, suc, ◌+◌, ◌/◌, ◌<◌, Bool, true, false, cond, ◌&&◌, List, [], ◌∷◌, ◌++◌, length, nat_le, nat_lt}
use Rattle.cost.specs.Price.{Price}
use Rattle.search.specs.declared.call.Call.{Call}
use Rattle.search.specs.declared.call.Call.TheVariants.{Advance, Try, Take, Tell}
use Rattle.search.specs.Trails.{Question}
use Rattle.search.specs.Trial.{Trial, trial_to, succeeds}

-- what a search holds, besides its cost, its number of blocks K and its ceiling C
pub record View : Type 0 where
  pub floor : ℕ
  pub figure : ℕ
  pub stands : Bool
  pub cut : List ℕ
  pub advances : ℕ
  pub tries : ℕ
  pub questions : ℕ

-- a newly opened search: no cut stands
abbrev pub start : ℕ → View
start C = record { floor = 0; figure = C + 1; stands = false; cut = []; advances = 0; tries = 0; questions = 0 }

-- a trial over all the rows
abbrev pub trial_at : Price → ℕ → ℕ → Trial
trial_at p K c = trial_to p p.rows c K

-- after a trial that succeeded its cut stands, at what it costs; `advancing` says which of the two counts it is for
abbrev pub gained : Bool → View → Trial → View
gained advancing s t = record {
  floor = s.floor;
  figure = t.worst;
  stands = true;
  cut = t.cut;
  advances = s.advances + cond advancing 1 0;
  tries = s.tries + cond advancing 0 1;
  questions = s.questions + length t.questions;
}

-- after a trial at c that failed the floor is c + 1
abbrev pub lost : Bool → ℕ → View → Trial → View
lost advancing c s t = record {
  floor = c + 1;
  figure = s.figure;
  stands = s.stands;
  cut = s.cut;
  advances = s.advances + cond advancing 1 0;
  tries = s.tries + cond advancing 0 1;
  questions = s.questions + length t.questions;
}

-- after a trial at c
unfoldable pub tried : Price → ℕ → ℕ → Bool → View → View
tried p K c advancing s = cond (succeeds p.rows K (trial_at p K c)) (gained advancing s (trial_at p K c)) (lost advancing c s (trial_at p K c))

-- half the sum of the floor and the standing figure, rounded down
abbrev pub halfway : View → ℕ
halfway s = (s.floor + s.figure) / 2

-- when a trial at c may be made for the one count or the other
abbrev pub Fair : Bool → View → ℕ → Type 0
Fair true s c = c ≡ halfway s
Fair false s c = s.tries < 65535

-- advance by n: up to n times, while the floor is below the standing figure, a trial halfway
unfoldable pub advanced : Price → ℕ → ℕ → View → View
advanced p K zero s = s
advanced p K (suc n) s = cond (nat_lt s.floor s.figure) (advanced p K n (tried p K (halfway s) true s)) s

-- an advance by i + j is one by i and then one by j
abbrev pub AdvanceSplits : Price → ℕ → View → Type 0
AdvanceSplits p K s = (i j : ℕ) → advanced p K (i + j) s ≡ advanced p K j (advanced p K i s)

-- the questions of an advance by n
unfoldable pub advance_asks : Price → ℕ → ℕ → View → List Question
advance_asks p K zero s = []
advance_asks p K (suc n) s = cond (nat_lt s.floor s.figure) ((trial_at p K (halfway s)).questions ++ advance_asks p K n (tried p K (halfway s) true s)) []

-- an advance is by 1 to 64
abbrev pub advance_ok : ℕ → Bool
advance_ok n = nat_le 1 n && nat_le n 64

-- a try at c makes a trial: c is at most C, from the floor on and below the standing figure, and tries are left
abbrev pub try_makes : ℕ → View → ℕ → Bool
try_makes C s c = nat_le c C && ((nat_le s.floor c && nat_lt c s.figure) && nat_lt s.tries 65535)

-- one call
unfoldable pub step : Price → ℕ → ℕ → Call → View → View
step p K C (Advance n) s = cond (advance_ok n) (advanced p K n s) s
step p K C (Try c) s = cond (try_makes C s c) (tried p K c false s) s
step p K C (Take n) s = s
step p K C Tell s = s

-- the questions that one call puts, in order
unfoldable pub call_asks : Price → ℕ → ℕ → Call → View → List Question
call_asks p K C (Advance n) s = cond (advance_ok n) (advance_asks p K n s) []
call_asks p K C (Try c) s = cond (try_makes C s c) (trial_at p K c).questions []
call_asks p K C (Take n) s = []
call_asks p K C Tell s = []

-- the calls one after the other
unfoldable pub plays : Price → ℕ → ℕ → List Call → View → View
plays p K C [] s = s
plays p K C (x ∷ xs) s = plays p K C xs (step p K C x s)

-- a search after a run: newly opened, and then the calls
abbrev pub play : Price → ℕ → ℕ → List Call → View
play p K C calls = plays p K C calls (start C)
