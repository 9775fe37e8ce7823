use Rattle.std.proofs.Common.{◌≡◌, ◌-◌}
use Rattle.pattern.specs.Sparsity.{row_count}
use Rattle.table.specs.Grounds.{SameGround}
use Rattle.table.proofs.walk.Walk.skip_empty_rows.Given as goal

abbrev pub invariant-loop-self : goal.invariant-loop-self
invariant-loop-self g l =
    record {
      same : SameGround l.initial.self l.self;
      still : l.self.left ≡ l.initial.self.left;
    }

abbrev pub decreases-loop-self : goal.decreases-loop-self
decreases-loop-self g l = row_count (g.P.Pattern.sparsity l.self.pattern.now) - l.self.cursor.row
