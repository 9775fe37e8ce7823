use Rattle.std.proofs.Common.{◌≡◌, ◌*◌, sym, ◌∙◌, arith}
use Rattle.gather.specs.Bits.{sum_to}
use Rattle.levels.specs.Planes.{bit_at}
use Rattle.levels.proofs.Frames.{bit_at_lt, sum_bits_more}
use Rattle.gather.proofs.Parts.{set_more}
use Rattle.gather.proofs.Sums.{sum_bound, sum_none}
use Rattle.levels.proofs.planes.tally.Goals as goal

pub loop-i-init : goal.loop-i-init
loop-i-init c = (sym (sum_none (bit_at c.args.plane.now)), λ k h. absurd (omega arith))

pub count_word-sum-requires : goal.count_word-sum-requires
count_word-sum-requires c =
    let plane = c.args.plane.now in omega (arith, sum_bound (bit_at plane) (bit_at_lt plane) (64 * c.loop-i.i), c.loop-i.invariant.0)

pub loop-i-preserved : goal.loop-i-preserved
loop-i-preserved c =
    let plane = c.args.plane.now in
    let i = c.loop-i.i in (
      omega (arith, c.count_word-sum.ensures.value, sum_bits_more plane i, c.loop-i.invariant.0),
      set_more (λ k x. x ≡ sum_to (bit_at plane) (64 * k)) c.loop-i.counts i c.count_word-sum.new.place (omega arith) c.loop-i.invariant.1
          (c.count_word-sum.ensures.after ∙ c.loop-i.invariant.0),
    )
