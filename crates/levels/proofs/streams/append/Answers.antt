use Rattle.std.proofs.Common.{◌+◌, ◌-◌, ◌/◌, ◌%◌, ◌^◌, max, length, ap, ◌∙◌, arith}
use Rattle.levels.specs.Planes.{bit_at}
use Rattle.levels.specs.Streams.{within}
use Rattle.levels.proofs.Appends.{two_words, one_word}
use Rattle.levels.proofs.streams.append.Goals as goal

pub returns-then-k-words : goal.returns-then-k-words
returns-then-k-words c d h =
    let k = c.args.k in
    let v = c.args.v in
    c.or_word-then-k-words.ensures.bits d ∙ ap (λ y. max y (within (k / 64 + 1) (v / 2 / 2 ^ (63 - k % 64)) d)) (c.or_word.ensures.bits d)
    ∙ two_words k v d (bit_at c.args.words.now d) c.ranges.v.fits

pub returns-else-k-words : goal.returns-else-k-words
returns-else-k-words c d h =
    c.or_word.ensures.bits d ∙ one_word c.args.k c.args.v d (bit_at c.args.words.now d) (length c.args.words.now) c.ranges.v.fits (omega arith) h
