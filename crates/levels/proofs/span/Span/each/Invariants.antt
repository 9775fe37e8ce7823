use Rattle.levels.specs.Planes.{Outside}
use Rattle.levels.specs.Rooms.{Each, Made, level_words}
use Rattle.levels.specs.Spans.{ends}
use Rattle.levels.proofs.span.Span.each.Given as goal

abbrev pub invariant-loop-k : goal.invariant-loop-k
invariant-loop-k g l =
    Each l.self.words l.k (λ A. Made (goal.F-post g l.step) (level_words l.self.words l.initial.memory A) (level_words l.self.words l.memory A)) l.self.at
    × Outside l.self.at (ends l.self.words l.k l.self.at) l.initial.memory l.memory
