use Rattle.std.proofs.Common.{◌+◌, ◌/◌, ◌%◌, ◌^◌, get_or, sym, ◌∙◌}
use Rattle.std.proofs.lemmas.Nat.{and_mask}
use Rattle.gather.specs.Bits.{bit_of}
use Rattle.levels.proofs.Frames.{bits_from_word}
use Rattle.levels.proofs.span.Span.bit.Goals as goal

pub returns : goal.returns
unfolding bit_of
returns c =
    let ws = c.args.memory.now in
    let at = c.args.self.now.at + 1 in
    let k = c.args.place in
    and_mask (get_or ws (at + k / 64) 0 / 2 ^ (k % 64)) 1 ∙ sym (bits_from_word ws at k)
