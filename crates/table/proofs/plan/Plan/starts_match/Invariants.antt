use Rattle.std.proofs.Common.{◌≡◌, ℕ, ◌+◌, ◌<◌, length, get_or}
use Rattle.pattern.specs.Sparsity.{entries_between}
use Rattle.table.specs.Heads.{starts_from}
use Rattle.table.proofs.plan.Plan.starts_match.Given as goal

abbrev pub invariant-loop-row : goal.invariant-loop-row
invariant-loop-row g l =
    let s = g.P.Pattern.sparsity l.self.pattern.now in
    record {
      left : starts_from (g.P.Pattern.sparsity l.row-iterator.pattern.now) l.row-iterator.row ≡ starts_from s (length l.yielded);
      starts : (k : ℕ) → k < length l.yielded → get_or l.words (3 + k) 0 ≡ entries_between s 0 k;
    }
