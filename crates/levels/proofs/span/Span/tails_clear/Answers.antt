use Rattle.std.proofs.Common.{rules}
use Rattle.levels.specs.Rooms.{level_words}
use Rattle.levels.proofs.Deciding.{when_same}
use Rattle.levels.proofs.Rooms.{Tail, each_tails, tail_in, tail_out, tails_each, when_each}
use Rattle.levels.proofs.span.Span.tails_clear.Goals as goal

pub returns : goal.returns
returns c =
    let s = c.args.self.now in
    let ws = c.args.memory.now in
    when_same c.all.result (each_tails s.words s.bits s.count ws s.at) (tails_each s.words s.bits s.count ws s.at)
    (when_each s.words s.bits s.at _ _ (Tail s.words s.count ws) c.all.result c.all.ensures
    (λ A l told. tail_in s.words A s.count ws (search rules))
    (λ A told tail. let no : Tail s.words s.count (level_words s.words ws A) 0 → ⊥ = search rules in no (tail_out s.words A s.count ws tail)))
