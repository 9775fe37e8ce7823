use Rattle.std.proofs.Common.{◌≡◌, ◌-◌, ◌*◌, length}
use Rattle.levels.specs.Layouts.{end_of}
use Rattle.levels.specs.Planes.{Outside}
use Rattle.table.specs.Stores.{Stored}
use Rattle.table.proofs.plan.Plan.store_window.Given as goal

abbrev pub invariant-loop-word : goal.invariant-loop-word
invariant-loop-word g l =
    record {
      same : (l.walk.pattern ≡ l.self.pattern) × (l.walk.first ≡ l.first) × (length l.walk.window.now ≡ 262144);
      left : l.walk.left ≡ l.self.entries - 64 * l.word;
      stored : Stored (g.P.Pattern.sparsity l.self.pattern.now) l.first 262144 (64 * l.word) l.self.layout l.memory;
      outside : Outside l.self.layout.start (end_of l.self.layout) l.initial.memory l.memory;
    }
