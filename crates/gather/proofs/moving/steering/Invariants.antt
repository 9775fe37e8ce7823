use Rattle.std.proofs.Common.{ℕ, ◌<◌, ◌≤◌, get_or}
use Rattle.gather.specs.Gathered.{Along, Steers}
use Rattle.gather.proofs.moving.steering.Given as goal

abbrev pub invariant-loop-i : goal.invariant-loop-i
invariant-loop-i l =
    ((k : ℕ) → k < l.i → Steers l.selected k (get_or l.steps k 0)) × ((k : ℕ) → l.i ≤ k → k < 6 → Along l.selected l.i k (get_or l.steps k 0))
