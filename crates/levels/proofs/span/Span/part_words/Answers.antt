use Rattle.std.proofs.Common.{rules, arith}
use Rattle.gather.specs.Selections.{selection}
use Rattle.levels.specs.Rooms.{Grown}
use Rattle.levels.proofs.Rooms.{at_words, each_from, grown_in}
use Rattle.levels.proofs.span.Span.part_words.Goals as goal

pub returns-clause-grown : goal.returns-clause-grown
returns-clause-grown c =
    let a = c.args in
    let b = a.self.now.words in
    let t = selection a.zeros.now in
    let s = selection a.ones.now in
    each_from _ _ _ _ (Grown t s b a.i a.lo a.hi a.memory.now c.each.new.memory) c.each.ensures.made
    (λ A l (x, y, from, to, p). grown_in b A _ _ t s a.i a.lo a.hi (omega arith) (at_words (λ u v. Grown t s b a.i a.lo a.hi u v 0) from to (search rules)))
