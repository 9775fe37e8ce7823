-- What holds at the start and after each call, of what tell answers and of what take writes to K + 1 places.
use Rattle.std.specs.Prelude.{◌≡◌, ℕ, ◌+◌, ◌*◌, ◌^◌, ◌<◌, ◌≤◌, cond, List, [], ◌∷◌, Some, None, Option, ◌≢◌}
use Rattle.cost.specs.Price.{Price, SameFigures}
use Rattle.search.specs.declared.report.State.TheVariants.{Open, Settled, Missing}
use Rattle.search.specs.declared.report.Report.{Report}
use Rattle.search.specs.declared.call.Call.{Call}
use Rattle.search.specs.declared.call.Call.TheVariants.{Advance, Try, Take, Tell}
use Rattle.search.specs.Cuts.{Cut, cost_of, Latest}
use Rattle.search.specs.Play.{View, advance_ok}

-- the trials that the accepted calls of advance ask for
unfoldable pub asked_for : List Call → ℕ
asked_for [] = 0
asked_for (Advance n ∷ xs) = cond (advance_ok n) n 0 + asked_for xs
asked_for (Try c ∷ xs) = asked_for xs
asked_for (Take n ∷ xs) = asked_for xs
asked_for (Tell ∷ xs) = asked_for xs

-- no cut costs C or less
abbrev pub NoCut : Price → ℕ → ℕ → Type 0
NoCut p K C = (cut : List ℕ) → Cut p.rows K cut → C < cost_of p K cut

-- the cut that take would next write, none where it would be declined
abbrev pub standing : View → Option (List ℕ)
standing s = cond s.stands (Some s.cut) None

-- a cut stands, and no cut costs less
abbrev pub Cheapest : Price → ℕ → Option (List ℕ) → Type 0
Cheapest p K None = ⊥
Cheapest p K (Some x) = (y : List ℕ) → Cut p.rows K y → cost_of p K x ≤ cost_of p K y

-- the law of a run: with K blocks and ceiling C over a cost that means p, after the calls, r is the report and `cut` stands
pub record Law (p : Price) (K C : ℕ) (calls : List Call) (r : Report) (cut : Option (List ℕ)) : Type 0 where
  -- every cut costs at least the floor
  pub floor : (x : List ℕ) → Cut p.rows K x → r.floor ≤ cost_of p K x
  -- a standing cut costs the figure, and every cut that costs no more has each boundary at or before its own
  pub stands : (x : List ℕ) → cut ≡ Some x → Cut p.rows K x × (cost_of p K x ≡ r.figure) × Latest p p.rows K x
  -- missing means that no cut costs C or less, and a search that is not open is missing exactly then, else settled
  pub none : r.state ≡ Missing → NoCut p K C
  pub exactly : (r.state ≢ Open) → NoCut p K C → r.state ≡ Missing
  pub decided : (r.state ≢ Open) → (NoCut p K C → ⊥) → r.state ≡ Settled
  -- settled means that a cut stands and that none costs less
  pub settled : r.state ≡ Settled → Cheapest p K cut
  -- open only while the accepted advances ask for fewer trials than C + 1 has binary digits
  pub open_while : r.state ≡ Open → (d : ℕ) → C + 1 < 2 ^ d → asked_for calls < d
  -- no more questions than trials times blocks times the binary digits of the rows plus 1
  pub questions : (d : ℕ) → p.rows + 1 < 2 ^ d → r.questions ≤ (r.advance_trials + r.try_trials) * (K * d)

-- two runs that settle over equal figures have one cut and one figure
abbrev pub Agree : Price → Price → Report → Report → Option (List ℕ) → Option (List ℕ) → Type 0
Agree p q r t cut other = SameFigures p q → r.state ≡ Settled → t.state ≡ Settled → (other ≡ cut) × (t.figure ≡ r.figure)
