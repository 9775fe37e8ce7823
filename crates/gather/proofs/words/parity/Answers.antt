use Rattle.std.proofs.Common.{◌≡◌, suc, ◌+◌, ◌*◌, ◌^◌, ap, add-one, pow-suc, subst, arith}
use Rattle.gather.specs.Bits.{bit_of}
use Rattle.gather.proofs.Moves.{places, few_places}
use Rattle.gather.proofs.Parities.{Window, window_one, window_two, window_all}
use Rattle.gather.proofs.words.parity.Goals as goal

pub loop-i-init : goal.loop-i-init
loop-i-init c = window_one c.args.x

pub fold-odd-requires : goal.fold-odd-requires
fold-odd-requires c = few_places c.loop-i.i c.loop-i-test.true

pub loop-i-preserved : goal.loop-i-preserved
loop-i-preserved c =
    let f = bit_of c.args.x in
    let k = 2 ^ c.loop-i.i in
    let e = places c.loop-i.i c.loop-i-test.true in
    let p : 2 ^ suc c.loop-i.i ≡ k * 2 = pow-suc 2 c.loop-i.i in
    let q = ap (λ x. 2 ^ x) (add-one c.loop-i.i) in
    let twice : k + k ≡ 2 ^ (c.loop-i.i + 1) = omega arith in
    subst (λ n. Window f n c.fold-odd.result) twice
    (window_two f k c.loop-i.odd c.fold-odd.result c.loop-i.invariant (rw e at c.fold-odd.ensures.low) (rw e at c.fold-odd.ensures.high))

pub returns : goal.returns
returns c = let e : c.loop-i.i ≡ 6 = omega arith in λ p h. window_all (bit_of c.args.x) c.loop-i.odd p (rw e at c.loop-i.invariant) h
