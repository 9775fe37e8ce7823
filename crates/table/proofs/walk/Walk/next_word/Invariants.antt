use Rattle.std.proofs.Common.{◌≡◌, ◌+◌, length}
use Rattle.table.specs.Walks.{Batched, position}
use Rattle.table.specs.Grounds.{SameGround}
use Rattle.table.proofs.walk.Walk.next_word.Given as goal

abbrev pub invariant-loop-place : goal.invariant-loop-place
invariant-loop-place g l =
    let walk = l.initial.self in
    let s = g.P.Pattern.sparsity walk.pattern.now in
    record {
      same : SameGround walk l.self;
      moved : l.self.left + l.place ≡ walk.left;
      batch : Batched s walk.first (length walk.window.now) (position s walk.cursor) l.place l.batch;
      long : length l.batch.found ≡ 64;
    }
