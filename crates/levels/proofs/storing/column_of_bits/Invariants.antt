use Rattle.std.proofs.Common.{◌≡◌, ℕ, ◌<◌, ◌≤◌, get_or}
use Rattle.gather.specs.Bits.{bit_of}
use Rattle.levels.proofs.storing.column_of_bits.Given as goal

abbrev pub invariant-loop-k : goal.invariant-loop-k
invariant-loop-k l =
    ((j : ℕ) → j < l.k → bit_of l.word j ≡ bit_of (get_or l.numbers j 0) l.digit)
    × ((j : ℕ) → l.k ≤ j → bit_of l.word j ≡ 0)
