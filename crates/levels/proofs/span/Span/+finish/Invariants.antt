use Rattle.levels.proofs.span.Span.+finish.Given as goal

abbrev pub decreases-finish : goal.decreases-finish
decreases-finish l = l.self.now.bits
