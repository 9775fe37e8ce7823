use Rattle.std.proofs.Common.{◌-◌}
use Rattle.levels.specs.Layouts.{end_of}
use Rattle.levels.specs.Planes.{Outside}
use Rattle.table.specs.Stores.{Stored}
use Rattle.table.proofs.plan.Plan.store_codes.Given as goal

abbrev pub invariant-loop-first : goal.invariant-loop-first
invariant-loop-first g l =
    Stored (g.P.Pattern.sparsity l.self.pattern.now) l.first 262144 0 l.self.layout l.memory
    × Outside l.self.layout.start (end_of l.self.layout) l.initial.memory l.memory

abbrev pub decreases-loop-first : goal.decreases-loop-first
decreases-loop-first g l = l.first-end - l.first
