use Rattle.std.proofs.Common.{◌≡◌, ℕ, ◌+◌, ◌<◌, get_or}
use Rattle.stored.proofs.check.row_ordered.Given as goal

abbrev pub invariant-loop-column : goal.invariant-loop-column
invariant-loop-column l =
    ((k : ℕ) → k < l.column-index → get_or l.row k 0 < l.width)
    × ((k : ℕ) → k + 1 < l.column-index → get_or l.row k 0 < get_or l.row (k + 1) 0)
    × ((k : ℕ) → k + 1 ≡ l.column-index → l.least ≡ get_or l.row k 0 + 1)
    × (l.column-index ≡ 0 → l.least ≡ 0)
