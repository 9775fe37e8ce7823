use Rattle.std.proofs.Common.{inr, refl, ◌∙◌, length-set, arith}
use Rattle.gather.specs.Gathered.{Along}
use Rattle.gather.proofs.Moves.{first_counts, first_moved, next_counts, digit_of}
use Rattle.gather.proofs.Parts.{set_more}
use Rattle.gather.proofs.moving.digits.Goals as goal

pub loop-digit-init : goal.loop-digit-init
loop-digit-init c = (
  first_counts c.args.selected c.unset-gaps.result c.unset-gaps.ensures.first c.unset-gaps.ensures.others,
  λ k h. absurd (omega arith),
  refl,
)

pub loop-digit-preserved : goal.loop-digit-preserved
loop-digit-preserved c =
    let s = c.args.selected in
    let i = c.loop-digit.digit-index in
    let g = c.loop-digit.gaps in
    let d = c.parity-odd.result in
    let counts = c.loop-digit.invariant.0 in (
      next_counts g d c.lacks-gaps.result c.parity-odd.ensures c.lacks-gaps.ensures s i counts,
      set_more (Along s 0) c.loop-digit.digit-items i c.shared.result (omega (arith, c.loop-digit.invariant.2)) c.loop-digit.invariant.1
          (d, (digit_of g d s i c.parity-odd.ensures counts, first_moved s d c.shared.result (inr c.ranges.selected.fits) c.shared.ensures)),
      length-set c.loop-digit.digit-items i c.shared.result ∙ c.loop-digit.invariant.2,
    )
