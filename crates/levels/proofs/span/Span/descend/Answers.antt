use Rattle.std.proofs.Common.{◌≡◌, ℕ, suc, ◌+◌, ◌-◌, ◌*◌, ◌≤◌, length, get_or, sym, refl, ap, ◌∙◌, subst, ap₂, arith}
use Rattle.std.specs.List.{between}
use Rattle.gather.specs.Bits.{bit_of, sum_to}
use Rattle.gather.proofs.Bitwise.{bit_is, bit_lt}
use Rattle.levels.specs.Counting.{count_less}
use Rattle.levels.specs.Numbers.{levels, sorted}
use Rattle.levels.specs.Planes.{bits_from}
use Rattle.levels.specs.Spans.{ends}
use Rattle.levels.proofs.Ends.{room_for}
use Rattle.levels.proofs.Descents.{counts_right, to_ones, to_zeros}
use Rattle.levels.proofs.Finals.{length_sorted}
use Rattle.levels.proofs.span.Span.descend.Goals as goal

one_bit : (x u : ℕ) → (bit_of x u ≡ 0 → ⊥) → bit_of x u ≡ 1
one_bit x u n = omega (arith, bit_lt x u)

pub returns-then-x-self-eq0-clause-counted : goal.returns-then-x-self-eq0-clause-counted
returns-then-x-self-eq0-clause-counted c cs fit e l h =
    let ws = c.args.memory.now in
    let b = c.args.self.now.words in
    let at = c.args.self.now.at in
    let bits = c.args.self.now.bits in
    let u = bits - 1 in
    let x = c.args.x in
    let from = c.args.from in
    let to = c.args.to in
    let s : suc u ≡ bits = omega arith in
    let e' = subst (λ y. between at (ends b y at) ws ≡ levels b y cs) (sym s) e in
    let room = subst (λ y. ends b y at ≤ length ws) (sym s) c.requires.0 in
    let wide : at + (2 * b + 2) ≤ length ws = omega (arith, room_for b bits at (omega arith)) in
    let right = counts_right ws cs b u at from to x fit room wide e' l h in
    let z = to_zeros ws cs b u at from to x fit room wide e' l h c.saturating_sub.result c.saturating_sub-then-x-self-eq0.result
    (sym (bit_is x u) ∙ c.if-x-self-eq0.true)
    (c.saturating_sub.ensures ∙ ap (λ y. from - y) (c.ones_before-ones_from.ensures right))
    (c.saturating_sub-then-x-self-eq0.ensures ∙ ap (λ y. to - y) (c.ones_before-ones_to.ensures right)) in
    let n = z.2 ∙ ap (λ y. count_less y x (between from to cs)) s in
    (z.0, omega (arith, z.1, length_sorted u cs), omega (arith, n))

pub returns-clause-counted : goal.returns-clause-counted
returns-clause-counted c cs fit e l h =
    let ws = c.args.memory.now in
    let b = c.args.self.now.words in
    let at = c.args.self.now.at in
    let bits = c.args.self.now.bits in
    let u = bits - 1 in
    let x = c.args.x in
    let from = c.args.from in
    let to = c.args.to in
    let f = bits_from ws (at + 1) in
    let zeros = get_or ws at 0 in
    let s : suc u ≡ bits = omega arith in
    let e' = subst (λ y. between at (ends b y at) ws ≡ levels b y cs) (sym s) e in
    let room = subst (λ y. ends b y at ≤ length ws) (sym s) c.requires.0 in
    let wide : at + (2 * b + 2) ≤ length ws = omega (arith, room_for b bits at (omega arith)) in
    let right = counts_right ws cs b u at from to x fit room wide e' l h in
    let o0 = c.ones_before-ones_from.ensures right in
    let o1 = c.ones_before-ones_to.ensures right in
    let z = to_ones ws cs b u at from to x fit room wide e' l h (zeros + sum_to f from) (zeros + sum_to f to)
    (one_bit x u (λ y. c.if-x-self-eq0.false (bit_is x u ∙ y))) refl refl in
    let len = length_sorted u cs in
    let p = ap (λ y. zeros + y) o0 in
    let r = ap (λ y. zeros + y) o1 in
    let z0 = z.0 in
    let z1 = z.1 in
    let a : c.among_ones.result ≡ zeros + sum_to f from = c.among_ones.ensures.value (omega arith) ∙ p in
    let d : c.among_ones-2.result ≡ zeros + sum_to f to = c.among_ones-2.ensures.value (omega arith) ∙ r in
    let w : c.zeros_within.result ≡ (to - from) - (sum_to f to - sum_to f from) = c.zeros_within.ensures ∙ ap₂ (λ y v. (to - from) - (y - v)) o1 o0 in
    let n = z.2 ∙ ap (λ y. count_less y x (between from to cs)) s in
    let k : count_less u x (between c.among_ones.result c.among_ones-2.result (sorted u cs)) ≡ count_less u x (between (zeros + sum_to f from) (zeros + sum_to f to) (sorted u cs)) =
    ap₂ (λ y v. count_less u x (between y v (sorted u cs))) a d in
    (omega arith, omega arith, omega arith)
