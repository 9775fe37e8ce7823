use Rattle.std.proofs.Common.{ℕ, ◌+◌, ◌*◌, ◌<◌, IfSome, None, get_or}
use Rattle.table.specs.Checks.{FoundAt}
use Rattle.table.proofs.checking.batch_found.Given as goal

abbrev pub invariant-loop-k : goal.invariant-loop-k
invariant-loop-k l =
    (j : ℕ) → j < l.k → IfSome (get_or l.batch.found j None) (FoundAt l.layout l.words (64 * l.word + j))
