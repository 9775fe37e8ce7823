use Rattle.std.proofs.Common.{true, take}
use Rattle.pattern.specs.Columns.{among}
use Rattle.pattern.specs.Sparsity.{row_at}
use Rattle.marks.specs.Counts.{Counted}
use Rattle.marks.proofs.counts.EachColumnRowCount.count_row.Given as goal

abbrev pub invariant-loop-place : goal.invariant-loop-place
invariant-loop-place g l =
    Counted (λ _. true) (among (take l.place (row_at (g.P.Pattern.sparsity l.fn.marked.pattern) l.row))) l.fn.marked l.marked l.new
