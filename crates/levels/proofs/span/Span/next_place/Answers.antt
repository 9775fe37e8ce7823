use Rattle.std.proofs.Common.{◌≡◌, ◌+◌, ◌-◌, ◌<◌, ◌≤◌, cond, get_or, sym, ap, ◌∙◌, subst, arith}
use native.Mathlib.Nat.{min-eq_left}
use Rattle.std.proofs.lemmas.Bool.{eq-eqb, ne_eqb}
use Rattle.gather.specs.Bits.{sum_to}
use Rattle.levels.specs.Planes.{bits_from}
use Rattle.levels.specs.Traces.{onward}
use Rattle.levels.proofs.Traces.{onward_lt}
use Rattle.levels.proofs.span.Span.next_place.Goals as goal

pub returns-then-bit-eq0 : goal.returns-then-bit-eq0
returns-then-bit-eq0 c s =
    let ws = c.args.memory.now in
    let f = bits_from ws (c.args.self.now.at + 1) in
    let q = c.args.place in
    let e : c.saturating_sub.result ≡ onward ws c.args.self.now.at q =
    c.saturating_sub.ensures ∙ ap (λ x. q - x) (c.ones_before-ones.ensures s.1)
    ∙ sym (ap (λ x. cond x (q - sum_to f q) (get_or ws c.args.self.now.at 0 + sum_to f q)) (eq-eqb (f q) 0 (sym c.bit.ensures ∙ c.if-bit-eq0.true))) in
    (e, subst (λ x. x < c.args.self.now.count) (sym e) (onward_lt ws c.args.self.now.words c.args.self.now.count c.args.self.now.at q (omega arith) (omega arith) s))

pub returns-else-bit-eq0 : goal.returns-else-bit-eq0
returns-else-bit-eq0 c s =
    let ws = c.args.memory.now in
    let f = bits_from ws (c.args.self.now.at + 1) in
    let q = c.args.place in
    let z = get_or ws c.args.self.now.at 0 in
    let o = c.ones_before-ones.ensures s.1 in
    let e : z + sum_to f q ≡ onward ws c.args.self.now.at q =
    sym (ap (λ x. cond x (q - sum_to f q) (z + sum_to f q)) (ne_eqb (f q) 0 (λ y. c.if-bit-eq0.false (c.bit.ensures ∙ y)))) in
    let l = onward_lt ws c.args.self.now.words c.args.self.now.count c.args.self.now.at q (omega arith) (omega arith) s in
    let u : z + c.ones_before-ones.result ≤ 18446744073709551615 = omega arith in
    let r : c.saturating_add.result ≡ onward ws c.args.self.now.at q = c.saturating_add.ensures ∙ min-eq_left u ∙ ap (λ x. z + x) o ∙ e in
    (r, subst (λ x. x < c.args.self.now.count) (sym r) l)
