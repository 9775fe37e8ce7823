use Rattle.std.proofs.Common.{◌<◌, length, refl, ◌∙◌, arith}
use Rattle.marks.proofs.Counting.{among_more, counts_le, counts_one, counts_then}
use Rattle.marks.proofs.nonlocal.NotOwned.count_slice.Goals as goal

pub loop-place-preserved : goal.loop-place-preserved
loop-place-preserved c =
    let l = c.loop-place in
    let columns = c.args.columns.now in
    let place : l.place < length columns = omega arith in
    record {
      same = c.sees-fresh.ensures.same ∙ l.invariant.same;
      counts = rw (c.from-new.ensures, c.counts.ensures)
          (counts_then l.invariant.counts (counts_one _ _ _ _ c.sees-fresh.ensures.value c.sees-fresh.ensures.after)
          (λ k h. among_more columns l.place _ 0 k place refl));
    }

pub overflow_add-new : goal.overflow_add-new
overflow_add-new c = omega (arith, counts_le (loop-place-preserved c).counts, c.ranges.width)
