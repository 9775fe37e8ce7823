use Rattle.std.proofs.Common.{ℕ, ◌-◌, ◌<◌, get_or}
use Rattle.table.specs.Checks.{FoundAt}
use Rattle.table.specs.Codes.{codes}
use Rattle.table.specs.Walks.{column_of}
use Rattle.table.specs.Words.{total_entries}
use Rattle.table.proofs.plan.Plan.codes_found.Given as goal

abbrev pub invariant-loop-first : goal.invariant-loop-first
invariant-loop-first g l =
    (q : ℕ) → q < total_entries (g.P.Pattern.sparsity l.self.pattern.now) → column_of (g.P.Pattern.sparsity l.self.pattern.now) q < l.first
    → FoundAt l.self.layout l.words q (get_or (codes (g.P.Pattern.sparsity l.self.pattern.now)) q 0)

abbrev pub decreases-loop-first : goal.decreases-loop-first
decreases-loop-first g l = l.first-end - l.first
