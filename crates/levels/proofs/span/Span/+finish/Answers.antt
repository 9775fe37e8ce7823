use Rattle.std.proofs.Common.{◌≡◌, ◌+◌, ◌-◌, ◌*◌, ◌/◌, sym, ap, ◌∙◌, subst, arith}
use Rattle.std.specs.List.{between}
use Rattle.std.proofs.lemmas.List.Edits.{between_none}
use Rattle.levels.specs.Numbers.{levels, sorted}
use Rattle.levels.specs.Planes.{bits_from}
use Rattle.levels.specs.Spans.{ends}
use Rattle.levels.proofs.Ends.{ends_below, ends_none}
use Rattle.levels.proofs.Finals.{length_sorted}
use Rattle.levels.proofs.Frames.{bits_lt, bits_same}
use Rattle.levels.proofs.Regions.{finish_levels, finish_outside, holds_after, holds_more, levels_none, routed_holds, routed_tails, tails_after, tails_more}
use Rattle.gather.proofs.Sums.{sum_cong}
use Rattle.levels.proofs.span.Span.+finish.Goals as goal

pub settle-zeros-requires-clause-tail : goal.settle-zeros-requires-clause-tail
settle-zeros-requires-clause-tail t c =
    let s = c.args.self.now in (tails_more s.words s.bits c.if-self-gt0.true s.count c.args.memory.now s.at c.requires.tails).0

pub partition-requires : goal.partition-requires
partition-requires t c =
    let s = c.args.self.now in
    let q = c.below-below.ensures in
    let r = c.below-below.result in
    let was = c.args.memory.now in
    let one = c.settle-zeros.new.memory in
    let e = ends_below s.words s.bits s.at r.words r.bits r.at c.if-self-gt0.true q.words q.bits q.at in
    let settled = c.settle-zeros.ensures in
    record {
      sizes = (omega (arith, q.at, q.words), omega (arith, e));
      count = rw q.count (settled.zeros ∙ ap (λ x. s.count - x) (sum_cong (bits_from was (s.at + 1)) (bits_from one (s.at + 1)) s.count
          (λ j h. sym (bits_same one was (s.at + 1) (s.at + 1) j (settled.bits (j / 64) (omega arith))))));
      tails = rw (q.words, q.bits, q.count, q.at) (tails_after s.words (s.bits - 1) s.count was one (s.at + (2 * s.words + 2)) settled.outside.1
          (tails_more s.words s.bits c.if-self-gt0.true s.count was s.at c.requires.tails).1);
    }

pub finish-requires : goal.finish-requires
finish-requires t c =
    let s = c.args.self.now in
    let q = c.below-below.ensures in
    let r = c.below-below.result in
    let e = ends_below s.words s.bits s.at r.words r.bits r.at c.if-self-gt0.true q.words q.bits q.at in (
      omega (arith, c.decreases, q.bits),
      (omega (arith, e), routed_tails (bits_from c.settle-zeros.new.memory (s.at + 1)) r.words r.count r.bits c.settle-zeros.new.memory c.partition.new.memory r.at c.partition.ensures.routed),
    )

pub returns-then-self-gt0 : goal.returns-then-self-gt0
returns-then-self-gt0 t c =
    let s = c.args.self.now in
    let q = c.below-below.ensures in
    let was = c.args.memory.now in
    let one = c.settle-zeros.new.memory in
    let two = c.partition.new.memory in
    let is = c.finish.new.memory in
    let p = c.if-self-gt0.true in
    let settled = c.settle-zeros.ensures in
    let low = s.at + (2 * s.words + 2) in
    let o2 = rw (q.at, q.words, q.bits) at c.partition.ensures.outside in
    let o3 = rw (q.at, q.words, q.bits) at c.finish.ensures.outside in
    record {
      outside = finish_outside was one two is s.at s.words s.count s.bits p (omega arith) (omega arith) (omega arith) (omega arith) (omega arith) settled.bits settled.outside o2 o3;
      levels = λ cs len h.
          let m = holds_more s.words s.bits p cs was s.at h in
          finish_levels was one two is s.at s.words s.count s.bits p (omega arith) (omega arith) (omega arith) (omega arith) (omega arith) settled.bits settled.outside o2 o3 cs len
          (settled.level cs (s.bits - 1) len m.0)
          (rw (q.at, q.words, q.bits, q.count) at c.finish.ensures.levels (sorted (s.bits - 1) cs) (length_sorted (s.bits - 1) cs ∙ len)
          (routed_holds (bits_from one (s.at + 1)) (bits_lt one (s.at + 1)) s.words s.count (s.bits - 1) cs one two (s.bits - 1) low len (omega arith)
          (λ k l. bits_same one was (s.at + 1) (s.at + 1) k (settled.bits (k / 64) (omega arith)) ∙ m.0 k (omega arith))
          (rw (q.at, q.words, q.bits, q.count) at c.partition.ensures.routed)
          (holds_after s.words (s.bits - 1) cs was one low settled.outside.1 m.1)));
    }

pub returns-else-self-gt0-clause-levels : goal.returns-else-self-gt0-clause-levels
returns-else-self-gt0-clause-levels t c cs len h =
    let s = c.args.self.now in
    let e : 0 ≡ s.bits = omega arith in
    subst (λ x. between s.at (ends s.words x s.at) c.args.memory.now ≡ levels s.words x cs) e
    (ap (λ x. between s.at x c.args.memory.now) (ends_none s.words s.at) ∙ between_none c.args.memory.now s.at ∙ sym (levels_none s.words cs))
