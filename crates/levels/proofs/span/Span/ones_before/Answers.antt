use Rattle.std.proofs.Common.{◌≡◌, ◌+◌, ◌/◌, ◌^◌, ◌<◌, ◌≤◌, get_or, ap, ◌∙◌, arith}
use native.Mathlib.Nat.{min-eq_left}
use lib.Bits.{bit_and}
use Rattle.gather.specs.Bits.{bit_of, sum_to}
use Rattle.levels.specs.Planes.{bits_from}
use Rattle.levels.proofs.Frames.{bits_lt, rank_from}
use Rattle.gather.proofs.Sums.{sum_bound}
use Rattle.levels.proofs.span.Span.ones_before.Goals as goal

pub returns : goal.returns
returns c f =
    let ws = c.args.memory.now in
    let a = c.args.self.now.at + 1 in
    let b = c.args.self.now.words in
    let k = c.args.k in
    let w = get_or ws (a + k / 64) 0 in
    let l = sum_bound (bits_from ws a) (bits_lt ws a) k in
    let small : w < 2 ^ 64 = omega (arith, c.type_inv.memory (a + k / 64)) in
    let e = rank_from ws a b k c.requires.2 small f in
    let s = c.set_bits.ensures.value ∙ ap (λ x. sum_to (bit_of (bit_and w x)) 64) c.lower.ensures in
    let r : get_or ws (a + b + k / 64) 0 + c.set_bits.result ≡ sum_to (bits_from ws a) k = omega arith in
    let u : get_or ws (a + b + k / 64) 0 + c.set_bits.result ≤ 18446744073709551615 = omega arith in
    c.saturating_add.ensures ∙ min-eq_left u ∙ r
