use Rattle.std.proofs.Common.{◌≡◌, ◌+◌, ◌++◌, ◌||◌, min, sym, ap, ◌∙◌, arith}
use Rattle.pattern.specs.Columns.{among, columns_in}
use Rattle.pattern.specs.Sparsity.{row_at}
use Rattle.pattern.proofs.Sets.{among_append, columns_more}
use Rattle.marks.proofs.Counting.{counts_le, counted_then}
use Rattle.marks.proofs.memory.Marked.count_rows.Goals as goal

pub loop-row-preserved : goal.loop-row-preserved
loop-row-preserved g c =
    let s = g.P.Pattern.sparsity c.args.self.now.pattern in
    let l = c.loop-row in
    let from = min c.args.from c.min-end.result in
    let more : columns_in s from (l.row + 1) ≡ columns_in s from l.row ++ row_at s l.row = columns_more s from l.row (omega arith) (omega arith) in
    counted_then l.invariant c.count_row-new.ensures
    (λ k h. ap (λ v. among v k) more ∙ among_append (columns_in s from l.row) (row_at s l.row) k
    ∙ ap (λ p. among (columns_in s from l.row) k || among (row_at (g.P.Pattern.sparsity p) l.row) k) (sym l.invariant.pattern))

pub overflow_add-new : goal.overflow_add-new
overflow_add-new g c = omega (arith, counts_le (loop-row-preserved g c).counts, c.args.self.now.narrow)
