use Rattle.std.proofs.Common.{◌+◌, refl, ◌∙◌, arith}
use Rattle.std.proofs.lemmas.List.Edits.{length-between}
use Rattle.levels.specs.Rooms.{Made}
use Rattle.levels.proofs.Frames.{outside_self}
use Rattle.levels.proofs.Rooms.{each_none, made_next}
use Rattle.levels.proofs.span.Span.each.Goals as goal

pub loop-k-init : goal.loop-k-init
loop-k-init g c = (each_none _ _ _, outside_self _ _ c.args.memory.now)

pub loop-k-preserved : goal.loop-k-preserved
loop-k-preserved g c =
    let s = c.args.self.now in
    made_next (Made (goal.F-post g c.args.step)) s.words s.at c.loop-k.k c.level-at.result c.width-width.result c.args.memory.now c.loop-k.memory c.step.new.arg2
    c.level-at.ensures.value c.width-width.ensures (omega (arith, c.level-at.ensures.within)) (omega arith)
    (c.step.auto.arg2 ∙ length-between c.loop-k.memory c.level-at.result (c.level-at.result + c.width-width.result) (omega (arith, c.level-at.ensures.within)) ∙ omega (arith, c.width-width.ensures)) c.loop-k.invariant
    (_, _, refl, refl, c.step.ensures)
