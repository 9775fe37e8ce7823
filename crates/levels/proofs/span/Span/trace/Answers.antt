use Rattle.std.proofs.Common.{◌≡◌, ℕ, ◌+◌, ◌-◌, ◌*◌, sym, ◌∙◌, subst, arith}
use Rattle.gather.proofs.Bitwise.{bit_is}
use Rattle.levels.specs.Traces.{Traced}
use Rattle.levels.proofs.Ends.{ends_below}
use Rattle.levels.proofs.Traces.{stand_more, traced_more, traced_make, traced_none}
use Rattle.levels.proofs.span.Span.trace.Goals as goal

pub returns-then-bit-from : goal.returns-then-bit-from
returns-then-bit-from c stand h =
    let s = c.loop-span.span in
    let left = c.loop-span.invariant.left stand in
    c.if-bit-from.true
    (c.bit.ensures ∙ (traced_more s.words s.bits c.loop-span-test.true c.args.memory.now s.at c.loop-span.place c.args.number (left.1 h)).0
    ∙ sym (c.from.ensures ∙ bit_is c.args.number (s.bits - 1)))

pub returns-then-place-span : goal.returns-then-place-span
returns-then-place-span c stand h =
    let s = c.loop-span.span in
    let first = (stand_more s.words s.bits c.loop-span-test.true s.count c.args.memory.now s.at (c.loop-span.invariant.left stand).0).0 in
    omega (arith, (c.next_place-place.ensures first).1)

pub loop-span-preserved : goal.loop-span-preserved
loop-span-preserved c =
    let s = c.loop-span.span in
    let p = c.loop-span-test.true in
    let v = c.loop-span.invariant in
    let ws = c.args.memory.now in
    let place = c.loop-span.place in
    let number = c.args.number in
    let r = c.below-span.result in
    let q = c.below-span.ensures in
    let P = λ (x : ℕ). Traced s.words (s.bits - 1) ws (s.at + (2 * s.words + 2)) x number in
    record {
      reach = omega (arith, v.reach, ends_below s.words s.bits s.at r.words r.bits r.at p q.words q.bits q.at);
      within = omega (arith, q.count);
      left = λ stand.
          let left = v.left stand in
          let all = stand_more s.words s.bits p s.count ws s.at left.0 in
          let e = (c.next_place-place.ensures all.0).0 in
          rw (q.at, q.words, q.bits, q.count) (
            all.1,
            λ h. subst P (sym e) (traced_more s.words s.bits p ws s.at place number (left.1 h)).1,
            λ h. left.2 (traced_make s.words s.bits p ws s.at place number (sym c.bit.ensures ∙ c.if-bit-from.false ∙ c.from.ensures ∙ bit_is number (s.bits - 1), subst P e h)),
          );
    }

pub returns : goal.returns
returns c stand =
    let s = c.loop-span.span in
    let none : 0 ≡ s.bits = omega arith in
    (c.loop-span.invariant.left stand).2
    (subst (λ x. Traced s.words x c.args.memory.now s.at c.loop-span.place c.args.number) none (traced_none s.words c.args.memory.now s.at c.loop-span.place c.args.number))
