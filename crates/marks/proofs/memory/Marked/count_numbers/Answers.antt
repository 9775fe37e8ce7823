use Rattle.std.proofs.Common.{min, sym, arith}
use Rattle.marks.proofs.Counting.{number_more, counts_le, counts_mark, counts_then}
use Rattle.marks.proofs.memory.Marked.count_numbers.Goals as goal

pub loop-row-preserved : goal.loop-row-preserved
loop-row-preserved g c =
    let l = c.loop-row in
    record {
      pattern = l.invariant.pattern;
      width = l.invariant.width;
      counts = rw c.from-new.ensures
          (counts_then l.invariant.counts (counts_mark _ _ _ _ c.sees.ensures.value c.sees.ensures.after)
          (λ k h. sym (number_more (min c.args.from c.min-end.result) l.row k (omega arith))));
    }

pub overflow_add-new : goal.overflow_add-new
overflow_add-new g c = omega (arith, counts_le (loop-row-preserved g c).counts, c.args.self.now.narrow)
