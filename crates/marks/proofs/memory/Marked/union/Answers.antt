use Rattle.std.proofs.Common.{◌||◌, refl, sym, ap, ◌∙◌, arith}
use Rattle.std.proofs.Math.Bool.{or_comm}
use Rattle.pattern.specs.Columns.{among, columns_in, row_number}
use Rattle.marks.proofs.Counting.{counts_each, counts_le, counted_then}
use Rattle.marks.proofs.memory.Marked.union.Goals as goal

pub together-requires : goal.together-requires
together-requires g c =
    omega (arith, counts_le (counted_then c.count_numbers-numbers.ensures c.count_rows.ensures (λ k h. refl)).counts, c.args.self.now.narrow)

pub returns-clause-value : goal.returns-clause-value
returns-clause-value g c =
    let m = c.args.self.now in
    let b = c.begin.ensures in
    rw c.together.ensures (counts_each (λ k h. b.none k (omega (arith, m.enough, b.same)))
    (counted_then c.count_numbers-numbers.ensures c.count_rows.ensures
    (λ k h. or_comm (among (columns_in (g.P.Pattern.sparsity m.pattern) c.args.from c.args.to) k) (row_number c.args.from c.args.to k)
    ∙ ap (λ p. row_number c.args.from c.args.to k || among (columns_in (g.P.Pattern.sparsity p) c.args.from c.args.to) k)
    (sym c.count_numbers-numbers.ensures.pattern))).counts)
