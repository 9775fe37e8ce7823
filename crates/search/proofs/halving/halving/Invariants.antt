use Rattle.std.proofs.Common.{◌≡◌, ◌+◌, ◌-◌}
use Rattle.search.specs.Digits.{digits}
use Rattle.search.specs.Halving.{halves, halving_asks}
use Rattle.search.specs.Trails.{Trail}
use Rattle.search.proofs.Halves.{Going, Figures}
use Rattle.search.proofs.halving.halving.Given as goal

-- the questions that are left from here make up the whole trail
abbrev pub invariant-loop-from : goal.invariant-loop-from
invariant-loop-from g l =
    let p = g.C.Cost.price l.initial.cost in
    (g.C.Cost.price l.cost ≡ p)
    × Going p l.block l.start l.start l.high l.c l.from l.past l.questions
    × Figures p l.block l.start l.start l.high l.from l.past l.granted l.refused
    × ((z : _) → Trail g.C.Cost.put l.cost (halves p l.block l.start l.c (digits (l.high + 1) - l.questions) l.from l.past) z → Trail g.C.Cost.put l.initial.cost (halving_asks p l.block l.start l.start l.high l.c) z)

abbrev pub decreases-loop-from : goal.decreases-loop-from
decreases-loop-from g l = l.past - l.from
