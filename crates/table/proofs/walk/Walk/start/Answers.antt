use Rattle.std.proofs.Common.{arith}
use Rattle.table.proofs.Walked.{knows_start, position_start, stands_start}
use Rattle.table.proofs.walk.Walk.start.Goals as goal

pub invariant_of-result : goal.invariant_of-result
invariant_of-result g c =
    let s = g.P.Pattern.sparsity c.args.plan.now.pattern.now in
    let e = c.at.ensures in
    record {
      stands = stands_start s c.at.result e.0 e.1 e.2;
      rest = omega (arith, position_start s c.at.result e.0 e.1 e.2, c.args.plan.now.total);
      knows = knows_start s c.at.result e.0 e.1 e.2 c.args.first c.args.window.now c.requires;
    }
