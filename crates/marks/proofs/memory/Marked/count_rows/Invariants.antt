use Rattle.std.proofs.Common.{min}
use Rattle.pattern.specs.Columns.{among, columns_in}
use Rattle.marks.specs.Counts.{Counted}
use Rattle.marks.proofs.memory.Marked.count_rows.Given as goal

abbrev pub invariant-loop-row : goal.invariant-loop-row
invariant-loop-row g l =
    Counted (g.C.RowCount.about l.count) (among (columns_in (g.P.Pattern.sparsity l.fn.self.pattern) (min l.from l.end) l.row)) l.fn.self l.self l.new
