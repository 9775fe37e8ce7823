use Rattle.std.proofs.Common.{arith}
use Rattle.levels.proofs.Ends.{ends_is, room_within}
use Rattle.levels.proofs.span.Span.level.Goals as goal

pub returns-clause-within : goal.returns-clause-within
returns-clause-within c =
    let s = c.args.self.now in rw c.width.ensures (omega (arith, ends_is s.words c.args.k s.at, room_within s.words c.args.k s.bits s.at c.requires))
