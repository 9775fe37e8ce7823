use Rattle.std.proofs.Common.{arith}
use Rattle.marks.proofs.Counting.{counts_all}
use Rattle.marks.proofs.nonlocal.Marked+Stored.nonlocal.Goals as goal

pub returns-clause-value : goal.returns-clause-value
returns-clause-value c =
    let m = c.args.self.now in
    let b = c.begin.ensures in
    counts_all (λ k h. b.none k (omega (arith, m.enough, b.same))) c.count_rows.ensures.counts
