use Rattle.std.proofs.Common.{rules}
use Rattle.levels.specs.Rooms.{level_words}
use Rattle.levels.specs.Traces.{Stands}
use Rattle.levels.proofs.Deciding.{when_same}
use Rattle.levels.proofs.Rooms.{each_stand, stands_in, stands_out, stand_each, when_each}
use Rattle.levels.proofs.span.Span.stand.Goals as goal

pub returns : goal.returns
returns c =
    let s = c.args.self.now in
    let ws = c.args.memory.now in
    when_same c.all.result (each_stand s.words s.bits s.count ws s.at) (stand_each s.words s.bits s.count ws s.at)
    (when_each s.words s.bits s.at _ _ (Stands s.words s.count ws) c.all.result c.all.ensures
    (λ A l told. stands_in s.words A s.count ws (search rules))
    (λ A told level. let no : Stands s.words s.count (level_words s.words ws A) 0 → ⊥ = search rules in no (stands_out s.words A s.count ws level)))
