use Rattle.std.proofs.Common.{true}
use Rattle.std.specs.Fn.{FnReturnsAt}
use Rattle.levels.specs.Rooms.{Each, level_words}
use Rattle.levels.proofs.span.Span.all.Given as goal

abbrev pub invariant-loop-k : goal.invariant-loop-k
invariant-loop-k g l = Each l.self.words l.k (λ A. FnReturnsAt g.F.Fn l.test (level_words l.self.words l.memory A) true) l.self.at
