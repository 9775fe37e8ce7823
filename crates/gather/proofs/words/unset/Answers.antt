use Rattle.std.proofs.Common.{◌≡◌, ◌+◌, ◌-◌, ap, ◌∙◌, arith}
use Rattle.gather.specs.Bits.{bit_of}
use Rattle.gather.proofs.Bitwise.{shl_low, shl_high}
use Rattle.gather.proofs.words.unset.Goals as goal

pub returns : goal.returns
returns c =
    let o = c.others.result in
    record {
      first = shl_low o 1 0 (omega arith) (omega arith);
      others = λ p h.
          let e : p + 1 - 1 ≡ p = omega arith in
          shl_high o 1 (p + 1) (omega arith) (omega arith) ∙ ap (λ x. bit_of o x) e ∙ c.others.ensures p (omega arith);
    }
