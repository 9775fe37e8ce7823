use Rattle.std.proofs.Common.{drop}
use Rattle.search.proofs.Under.{Under}
use Rattle.search.proofs.run.run_through.Given as goal

abbrev pub invariant-loop-call : goal.invariant-loop-call
invariant-loop-call g l = Under g.C.Cost.price g.C.Cost.put l.initial.search l.calls (drop l.call-index l.calls) l.search l.last
