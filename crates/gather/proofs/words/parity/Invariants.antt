use Rattle.std.proofs.Common.{◌^◌}
use Rattle.gather.specs.Bits.{bit_of}
use Rattle.gather.proofs.Parities.{Window}
use Rattle.gather.proofs.words.parity.Given as goal

abbrev pub invariant-loop-i : goal.invariant-loop-i
invariant-loop-i l = Window (bit_of l.x) (2 ^ l.i) l.odd
