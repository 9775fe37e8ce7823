use Rattle.std.proofs.Common.{◌*◌, sym, ◌∙◌, arith, below_more}
use Rattle.levels.specs.Planes.{bit_at}
use Rattle.levels.proofs.Frames.{bit_at_lt, sum_bits_more}
use Rattle.gather.proofs.Sums.{sum_bound, sum_none}
use Rattle.levels.proofs.checking.counted.Goals as goal

pub loop-i-init : goal.loop-i-init
loop-i-init c = (sym (sum_none (bit_at c.args.plane.now)), λ k h. absurd (omega arith))

pub overflow_add-sum : goal.overflow_add-sum
overflow_add-sum c =
    let plane = c.args.plane.now in omega (arith, sum_bound (bit_at plane) (bit_at_lt plane) (64 * c.loop-i.i), c.loop-i.invariant.0, c.set_bits-sum.ensures.bound)

pub loop-i-preserved : goal.loop-i-preserved
loop-i-preserved c = (
  omega (arith, c.set_bits-sum.ensures.value, sum_bits_more c.args.plane.now c.loop-i.i, c.loop-i.invariant.0),
  below_more _ _ c.loop-i.invariant.1 (c.if-counts-i.false ∙ c.loop-i.invariant.0),
)
