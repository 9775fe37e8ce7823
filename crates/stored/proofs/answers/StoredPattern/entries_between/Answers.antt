use Rattle.std.proofs.Common.{arith}
use Rattle.stored.proofs.StoredRows.{climb, height}
use Rattle.stored.proofs.answers.StoredPattern.entries_between.Goals as goal

pub overflow_sub-result : goal.overflow_sub-result
overflow_sub-result c =
    let s = c.args.self.now in
    rw c.as_slice-starts.ensures.value
    (climb s c.min-start.result c.min-end.result (omega (arith, height s)) (omega (arith, height s)))
