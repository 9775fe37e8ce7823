use Rattle.std.proofs.Common.{◌≡◌, ◌+◌, take}
use Rattle.search.specs.Trails.{Trail}
use Rattle.search.specs.Trial.{trial_to}
use Rattle.search.proofs.Trials.{Walking}
use Rattle.search.proofs.trial.trial.Given as goal

abbrev pub invariant-loop-k : goal.invariant-loop-k
invariant-loop-k g l =
    let p = g.C.Cost.price l.initial.cost in
    (g.C.Cost.price l.cost ≡ p)
    × Walking p l.end l.c l.k (take (l.k + 1) l.boundaries) l.start l.worst l.questions
    × Trail g.C.Cost.put l.initial.cost (trial_to p l.end l.c l.k).questions l.cost
