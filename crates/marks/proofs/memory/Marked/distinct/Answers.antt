use Rattle.std.proofs.Common.{arith}
use Rattle.marks.proofs.Counting.{counts_each}
use Rattle.marks.proofs.memory.Marked.distinct.Goals as goal

pub returns-clause-value : goal.returns-clause-value
returns-clause-value g c =
    let m = c.args.self.now in
    let b = c.begin.ensures in
    counts_each (λ k h. b.none k (omega (arith, m.enough, b.same))) c.count_rows.ensures.counts
