use Rattle.std.proofs.Common.{◌≡◌, ◌+◌, ◌-◌, ◌*◌}
use Rattle.gather.specs.Bits.{sum_to}
use Rattle.levels.specs.Planes.{bits_from, Outside}
use Rattle.levels.specs.Rooms.{Each}
use Rattle.levels.specs.Spans.{ends}
use Rattle.levels.proofs.Parting.{Parted}
use Rattle.levels.proofs.Rooms.{Tail}
use Rattle.levels.proofs.span.Span.partition.Given as goal

abbrev pub invariant-loop-i : goal.invariant-loop-i
invariant-loop-i l =
    (l.zeros ≡ l.self.count - sum_to (bits_from l.initial.memory l.selector) l.self.count)
    × (l.lo ≡ 64 * l.i - sum_to (bits_from l.initial.memory l.selector) (64 * l.i))
    × (l.hi ≡ l.zeros + sum_to (bits_from l.initial.memory l.selector) (64 * l.i))
    × Each l.self.words l.self.bits (Tail l.self.words l.self.count l.initial.memory) l.self.at
    × Each l.self.words l.self.bits (Parted (bits_from l.initial.memory l.selector) l.self.words l.self.count l.zeros (64 * l.i) l.initial.memory l.memory) l.self.at
    × Outside l.self.at (ends l.self.words l.self.bits l.self.at) l.initial.memory l.memory
