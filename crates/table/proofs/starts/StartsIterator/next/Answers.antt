use Rattle.std.proofs.Common.{◌+◌, arith}
use Rattle.pattern.proofs.Spans.{entries_few}
use Rattle.table.proofs.Runs.{entries_next}
use Rattle.table.proofs.starts.StartsIterator.next.Goals as goal

pub overflow_add-self : goal.overflow_add-self
overflow_add-self g c =
    let it = c.args.self.now in
    let s = g.P.Pattern.sparsity it.pattern.now in
    omega (
      arith,
      it.started,
      entries_next s it.row (omega arith),
      entries_few s (g.met.P.Pattern.lawful it.pattern.now) 0 (it.row + 1),
    )

pub invariant_of-self : goal.invariant_of-self
invariant_of-self g c =
    let it = c.args.self.now in
    record { all = it.all; started = omega (arith, it.started, entries_next (g.P.Pattern.sparsity it.pattern.now) it.row (omega arith)) }
