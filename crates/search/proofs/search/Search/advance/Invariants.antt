use Rattle.std.proofs.Common.{◌≡◌, ◌-◌}
use Rattle.search.specs.Trails.{Trail}
use Rattle.search.specs.Play.{advanced, advance_asks}
use Rattle.search.specs.Of.{view_of}
use Rattle.search.proofs.Along.{Kept}
use Rattle.search.proofs.search.Search.advance.Given as goal

-- what is left from here makes up the whole, and so do the questions that are left
abbrev pub invariant-loop : goal.invariant-loop
invariant-loop g l =
    let p = g.C.Cost.price l.initial.self.cost in
    let K = l.initial.self.blocks in
    Kept g.C.Cost.price g.C.Cost.put l.initial.self l.self
    × (advanced p K (l.n - l.counter) (view_of l.self) ≡ advanced p K l.n (view_of l.initial.self))
    × ((z : _) → Trail g.C.Cost.put l.self.cost (advance_asks p K (l.n - l.counter) (view_of l.self)) z → Trail g.C.Cost.put l.initial.self.cost (advance_asks p K l.n (view_of l.initial.self)) z)
