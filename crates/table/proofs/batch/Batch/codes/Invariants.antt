use Rattle.std.proofs.Common.{◌≡◌, ℕ, ◌<◌, None, unwrap_or, length, get_or}
use Rattle.table.proofs.batch.Batch.codes.Given as goal

abbrev pub invariant-loop-k : goal.invariant-loop-k
invariant-loop-k l =
    record {
      codes : (j : ℕ) → j < l.k → get_or l.codes j 0 ≡ unwrap_or (get_or l.self.found j None) 0;
      long : length l.codes ≡ 64;
    }
