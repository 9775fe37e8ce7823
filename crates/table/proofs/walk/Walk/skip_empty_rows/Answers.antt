use Rattle.std.proofs.Common.{◌<◌, arith}
use Rattle.pattern.specs.Sparsity.{row_count}
use Rattle.table.proofs.Walked.{knows_row, position_row, row_below, stands_row}
use Rattle.table.proofs.walk.Walk.skip_empty_rows.Goals as goal

pub invariant_of-self : goal.invariant_of-self
invariant_of-self g c =
    let walk = c.loop-self.self in
    let s = g.P.Pattern.sparsity walk.pattern.now in
    let e = c.at-self.ensures in
    let is = c.at-self.result in
    let l : walk.cursor.row < row_count s =
    row_below s walk.cursor is walk.stands c.loop-self-test.true e.0 e.1 e.2 (omega (arith, walk.rest, c.loop-self.invariant.still, c.requires)) in
    record {
      stands = stands_row s walk.cursor is walk.stands c.loop-self-test.true e.0 e.1 e.2 l;
      rest = omega (arith, position_row s walk.cursor is walk.stands c.loop-self-test.true e.0 e.1 e.2 l, walk.rest);
      knows = knows_row s walk.cursor is walk.stands c.loop-self-test.true e.0 e.1 e.2 walk.first walk.window.now walk.knows;
    }
