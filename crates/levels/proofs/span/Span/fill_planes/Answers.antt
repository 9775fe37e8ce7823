use Rattle.std.proofs.Common.{rules}
use Rattle.levels.specs.Rooms.{Filled}
use Rattle.levels.proofs.Rooms.{at_words, each_from, filled_in}
use Rattle.levels.proofs.span.Span.fill_planes.Goals as goal

pub returns-clause-filled : goal.returns-clause-filled
returns-clause-filled c =
    let b = c.args.self.now.words in
    each_from _ _ _ _ (Filled b c.args.memory.now c.each.new.memory) c.each.ensures.made
    (λ A l (x, y, from, to, p). filled_in b A _ _ (at_words (λ u v. Filled b u v 0) from to (search rules)))
