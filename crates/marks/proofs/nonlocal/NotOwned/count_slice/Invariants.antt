use Rattle.std.proofs.Common.{◌≡◌, not, take}
use Rattle.owners.specs.Lists.{list_of}
use Rattle.owners.specs.Owned.{owned_by}
use Rattle.pattern.specs.Columns.{among}
use Rattle.marks.specs.Counts.{Counts}
use Rattle.marks.specs.Seen.{covered, seen}
use Rattle.marks.proofs.nonlocal.NotOwned.count_slice.Given as goal

abbrev pub invariant-loop-place : goal.invariant-loop-place
invariant-loop-place l = record {
  same : covered l.marks ≡ covered l.fn.marks;
  counts : Counts l.width (λ c. not (owned_by (list_of l.self.owners.now) l.self.block c)) (among (take l.place l.columns)) (seen l.fn.marks) (seen l.marks) l.new;
}
