use Rattle.std.proofs.Common.{true, min}
use Rattle.pattern.specs.Columns.{row_number}
use Rattle.marks.specs.Counts.{Counted}
use Rattle.marks.proofs.memory.Marked.count_numbers.Given as goal

abbrev pub invariant-loop-row : goal.invariant-loop-row
invariant-loop-row g l = Counted (λ _. true) (row_number (min l.from l.end) l.row) l.fn.self l.self l.new
