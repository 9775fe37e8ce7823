-- What the comparison of two runs gives.
use Rattle.std.specs.Prelude.{◌≡◌, ℕ, List, Ok, Err, Result}
use Rattle.cost.specs.Price.{Price}
use Rattle.search.specs.declared.call.Call.{Call}
use Rattle.search.specs.declared.played.Played.{Played}
use Rattle.search.specs.declared.played.Unopened.{Unopened}
use Rattle.search.specs.Trails.{Trail}
use Rattle.search.specs.Play.{start}
use Rattle.search.specs.Law.{Agree}
use Rattle.search.specs.Runs.{boundaries_of, run_asks, RunLaw}

-- the law of both runs, and that they agree
abbrev pub BothLaws : Price → Price → ℕ → ℕ → List Call → ℕ → List Call → Result (Played × Played) Unopened → Type 0
BothLaws p q K C calls D others (Ok x) =
    RunLaw p K C calls x.0
    × RunLaw q K D others x.1
    × Agree p q x.0.report x.1.report (boundaries_of K x.0.cut) (boundaries_of K x.1.cut)
BothLaws p q K C calls D others (Err e) = Unit {0}

module _ {C : Type 0} where
  -- a cost comes back with its meaning, having gone through exactly the questions of the run; of no run it is identical
  abbrev pub Returned : (C → Price) → (C → ℕ → ℕ → ℕ → C → Type 0) → ℕ → ℕ → List Call → C → C → Result (Played × Played) Unopened → Type 0
  Returned price put K M calls before after (Ok x) = (price after ≡ price before) × Trail put before (run_asks (price before) K M calls (start M)) after
  Returned price put K M calls before after (Err e) = after ≡ before
