use Rattle.std.proofs.Common.{◌≡◌, ℕ, ◌*◌, ◌<◌, get_or}
use Rattle.gather.specs.Bits.{sum_to}
use Rattle.levels.specs.Planes.{bit_at}
use Rattle.levels.proofs.checking.counted.Given as goal

abbrev pub invariant-loop-i : goal.invariant-loop-i
invariant-loop-i l =
    (l.sum ≡ sum_to (bit_at l.plane) (64 * l.i)) × ((k : ℕ) → k < l.i → get_or l.counts k 0 ≡ sum_to (bit_at l.plane) (64 * k))
