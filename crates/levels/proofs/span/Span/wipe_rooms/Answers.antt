use Rattle.std.proofs.Common.{rules}
use Rattle.levels.specs.Rooms.{Wiped}
use Rattle.levels.proofs.Rooms.{at_words, each_from, wiped_in}
use Rattle.levels.proofs.span.Span.wipe_rooms.Goals as goal

pub returns-clause-wiped : goal.returns-clause-wiped
returns-clause-wiped c =
    let b = c.args.self.now.words in
    each_from _ _ _ _ (Wiped b c.args.memory.now c.each.new.memory) c.each.ensures.made
    (λ A l (x, y, from, to, p). wiped_in b A _ _ (at_words (λ u v. Wiped b u v 0) from to (search rules)))
