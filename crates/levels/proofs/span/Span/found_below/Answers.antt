use Rattle.std.proofs.Common.{◌≡◌, suc, ◌+◌, ◌-◌, ◌*◌, ◌≤◌, length, sym, ap, ◌∙◌, subst, arith}
use native.Mathlib.Nat.{min-eq_left}
use Rattle.std.specs.List.{between}
use Rattle.levels.specs.Counting.{count_less}
use Rattle.levels.specs.Numbers.{levels, sorted}
use Rattle.levels.specs.Spans.{ends}
use Rattle.levels.proofs.Counts.{count_zero}
use Rattle.levels.proofs.Descents.{rest}
use Rattle.levels.proofs.Ends.{ends_below, room_for}
use Rattle.levels.proofs.Finals.{length_sorted}
use Rattle.levels.proofs.span.Span.found_below.Goals as goal

pub loop-span-preserved : goal.loop-span-preserved
loop-span-preserved c =
    let s = c.loop-span.span in
    let v = c.loop-span.invariant in
    let ws = c.args.memory.now in
    let r = c.below-span.result in
    let q = c.below-span.ensures in
    let d = c.descend-next_from in
    let u = s.bits - 1 in
    record {
      reach = omega (arith, v.reach, ends_below s.words s.bits s.at r.words r.bits r.at c.loop-span-test.true q.words q.bits q.at);
      words = q.words ∙ v.words;
      within = (omega (arith, d.ensures.within.0, v.words), omega (arith, d.ensures.within.1, v.words));
      left = λ cs fit e l h small.
          let n = v.left cs fit e l h small in
          let now = n.0 in
          let fits : length now ≤ 64 * s.words = omega (arith, n.1, v.words) in
          let g = d.ensures.counted now fits n.2 n.3 n.4 in
          let t : suc u ≡ s.bits = omega arith in
          let e' = subst (λ y. between s.at (ends s.words y s.at) ws ≡ levels s.words y now) (sym t) n.2 in
          let room = subst (λ y. ends s.words y s.at ≤ length ws) (sym t) v.reach in
          let wide : s.at + (2 * s.words + 2) ≤ length ws = omega (arith, v.reach, room_for s.words s.bits s.at c.loop-span-test.true) in
          let sum = n.5 in
          let more = g.2 in
          let found : c.saturating_add-found.result ≡ c.loop-span.found + d.result.2 = c.saturating_add-found.ensures ∙ min-eq_left (omega arith) in (
            sorted u now,
            length_sorted u now ∙ n.1,
            rw (q.at, q.words, q.bits) (rest ws now s.words u s.at c.loop-span.from c.loop-span.to c.args.x fits room wide e' n.3 n.4),
            g.0,
            omega (arith, g.1, length_sorted u now),
            rw q.bits (omega arith),
          );
    }

pub returns : goal.returns
returns c cs fit e l h small =
    let s = c.loop-span.span in
    let n = c.loop-span.invariant.left cs fit e l h small in
    let part = between c.loop-span.from c.loop-span.to n.0 in
    let none : s.bits ≡ 0 = omega arith in
    let zero : count_less s.bits c.args.x part ≡ 0 = ap (λ y. count_less y c.args.x part) none ∙ count_zero c.args.x part in
    omega (arith, n.5, zero)
