use Rattle.std.proofs.Common.{◌≡◌, ◌*◌, ◌%◌, ◌^◌, ◌<◌, get_or, sym, ◌∙◌, subst, ⊎_elim, arith}
use lib.Bits.{bit_or}
use Rattle.std.proofs.lemmas.Bool.{cases_eq}
use Rattle.gather.specs.Bits.{bit_of}
use Rattle.gather.proofs.Bitwise.{bit_is, bit_lt, bit_none}
use Rattle.levels.proofs.Puts.{join_above, join_below, join_here}
use Rattle.levels.proofs.storing.column_of_bits.Goals as goal

pub loop-k-init : goal.loop-k-init
loop-k-init c = (λ j h. absurd (omega arith), λ j h. bit_none j)

pub loop-k-preserved : goal.loop-k-preserved
loop-k-preserved c =
    let k = c.loop-k.k in
    let x = get_or c.args.numbers.now k 0 in
    let bit = c.from.result in
    let e : bit ≡ bit_of x c.args.digit = c.from.ensures ∙ bit_is x c.args.digit in
    let two : bit < 2 = omega (arith, e, bit_lt x c.args.digit) in (
      λ j h.
          ⊎_elim
          (λ (q : j ≡ k).
          subst (λ y. bit_of (bit_or c.loop-k.word (bit * 2 ^ k % 2 ^ 64)) y ≡ bit_of (get_or c.args.numbers.now y 0) c.args.digit) (sym q)
          (join_here c.loop-k.word bit k two c.loop-k-test.true (c.loop-k.invariant.1 k (omega arith)) ∙ e))
          (λ (n : j ≡ k → ⊥). join_below c.loop-k.word bit k two c.loop-k-test.true j (omega arith) ∙ c.loop-k.invariant.0 j (omega arith))
          (cases_eq j k),
      λ j h. join_above c.loop-k.word bit k two c.loop-k-test.true j (omega arith) ∙ c.loop-k.invariant.1 j (omega arith),
    )
