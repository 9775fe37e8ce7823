use Rattle.gather.specs.Gathered.{Moved}
use Rattle.gather.proofs.moving.brought.Given as goal

abbrev pub invariant-loop-i : goal.invariant-loop-i
invariant-loop-i l = Moved l.masks.selected l.i l.word l.moving
