use Rattle.levels.proofs.span.Span.+store.Given as goal

abbrev pub decreases-store : goal.decreases-store
decreases-store l = l.self.now.bits
