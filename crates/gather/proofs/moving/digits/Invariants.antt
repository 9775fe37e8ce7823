use Rattle.std.proofs.Common.{◌≡◌, ℕ, ◌<◌, length, get_or}
use Rattle.gather.specs.Gathered.{Along}
use Rattle.gather.proofs.Moves.{Counts}
use Rattle.gather.proofs.moving.digits.Given as goal

abbrev pub invariant-loop-digit : goal.invariant-loop-digit
invariant-loop-digit l =
    Counts l.selected l.digit-index l.gaps
    × ((k : ℕ) → k < l.digit-index → Along l.selected 0 k (get_or l.digit-items k 0))
    × (length l.digit-items ≡ 6)
