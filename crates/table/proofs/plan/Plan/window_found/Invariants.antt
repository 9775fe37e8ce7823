use Rattle.std.proofs.Common.{◌≡◌, ℕ, ◌-◌, ◌*◌, ◌<◌, true, length, get_or}
use Rattle.table.specs.Checks.{FoundAt}
use Rattle.table.specs.Codes.{codes}
use Rattle.table.specs.Walks.{column_of, windowed}
use Rattle.table.specs.Words.{total_entries}
use Rattle.table.proofs.plan.Plan.window_found.Given as goal

abbrev pub invariant-loop-word : goal.invariant-loop-word
invariant-loop-word g l =
    let s = g.P.Pattern.sparsity l.self.pattern.now in
    record {
      same : (l.walk.pattern ≡ l.self.pattern) × (l.walk.first ≡ l.first) × (length l.walk.window.now ≡ 262144);
      left : l.walk.left ≡ l.self.entries - 64 * l.word;
      found : (q : ℕ) → q < 64 * l.word → q < total_entries s → windowed l.first 262144 (column_of s q) ≡ true
          → FoundAt l.self.layout l.words q (get_or (codes s) q 0);
    }
