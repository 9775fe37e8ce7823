use Rattle.std.proofs.Common.{◌≡◌, inl, get_or, subst, arith}
use Rattle.gather.specs.Gathered.{Moved}
use Rattle.gather.proofs.Moves.{first_moved, advance, gathered, places}
use Rattle.gather.proofs.moving.brought.Goals as goal

pub loop-i-init : goal.loop-i-init
loop-i-init c = first_moved c.args.masks.now.selected c.args.word c.shared-moving.result (inl c.ranges.word.fits) c.shared-moving.ensures

pub loop-i-preserved : goal.loop-i-preserved
loop-i-preserved c =
    let m = c.args.masks.now in
    let i = c.loop-i.i in
    advance m.selected i c.args.word c.loop-i.moving (get_or m.steps i 0) c.step-moving.result
    (m.steer i c.loop-i-test.true) c.loop-i.invariant (simp (places i c.loop-i-test.true) at c.step-moving.ensures)

pub returns : goal.returns
returns c =
    let m = c.args.masks.now in
    let e : c.loop-i.i ≡ 6 = omega arith in
    gathered m.selected c.args.word c.loop-i.moving (subst (λ i. Moved m.selected i c.args.word c.loop-i.moving) e c.loop-i.invariant)
