use Rattle.std.proofs.Common.{◌<◌, length, arith}
use Rattle.pattern.specs.Sparsity.{row_at}
use Rattle.marks.proofs.Counting.{among_more, counts_le, counts_mark, counts_then}
use Rattle.marks.proofs.counts.EachColumnRowCount.count_row.Goals as goal

pub loop-place-preserved : goal.loop-place-preserved
loop-place-preserved g c =
    let l = c.loop-place in
    let s = g.P.Pattern.sparsity c.args.marked.now.pattern in
    let row = row_at s c.args.row in
    let at = rw l.invariant.pattern at c.column-column.ensures in
    let place : l.place < length row = omega arith in
    record {
      pattern = l.invariant.pattern;
      width = l.invariant.width;
      counts = rw c.from-new.ensures
          (counts_then l.invariant.counts (counts_mark _ _ _ _ c.sees.ensures.value c.sees.ensures.after)
          (λ k h. among_more row l.place _ s.column_count k place at));
    }

pub overflow_add-new : goal.overflow_add-new
overflow_add-new g c = omega (arith, counts_le (loop-place-preserved g c).counts, c.args.marked.now.narrow)
