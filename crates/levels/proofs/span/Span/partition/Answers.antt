use Rattle.std.proofs.Common.{◌≡◌, ◌+◌, ◌-◌, get_or, sym, ap, ◌∙◌, arith}
use Rattle.gather.specs.Bits.{bit_of, sum_to}
use Rattle.gather.specs.Selections.{selection}
use Rattle.gather.proofs.Sums.{sum_none}
use Rattle.levels.specs.Planes.{bits_from}
use Rattle.levels.proofs.Ends.{ends_le}
use Rattle.levels.proofs.Frames.{outside_self, outside_then}
use Rattle.levels.proofs.Parting.{count_same, tails_same, parted_start, parted_end, parted_on, in_reach, counts_on}
use Rattle.levels.proofs.span.Span.partition.Goals as goal

pub loop-i-init : goal.loop-i-init
loop-i-init c =
    let was = c.args.memory.now in
    let mid = c.wipe_rooms.new.memory in
    let o = c.wipe_rooms.ensures.outside in
    let w = c.wipe_rooms.ensures.wiped in
    let e = sum_none (bits_from mid c.args.selector) in (
      count_same was mid c.args.selector c.args.self.now.at c.args.self.now.words c.args.self.now.count c.args.zeros c.args.self.now.bits (omega arith) (omega arith) o w c.requires.count,
      omega (arith, e, c.first_places-lo.ensures.0),
      omega (arith, e, c.first_places-lo.ensures.1),
      tails_same was mid c.args.selector c.args.self.now.at c.args.self.now.words c.args.self.now.count c.args.zeros c.args.self.now.bits (omega arith) (omega arith) o w c.requires.tails,
      parted_start was mid c.args.selector c.args.self.now.at c.args.self.now.words c.args.self.now.count c.args.zeros c.args.self.now.bits (omega arith) (omega arith) o w (omega (arith, c.requires.count)),
      outside_self _ _ mid,
    )

pub part_words-requires : goal.part_words-requires
part_words-requires c =
    let v = c.loop-i.invariant in
    let r = in_reach c.wipe_rooms.new.memory c.args.selector c.args.self.now.words c.args.self.now.count c.args.zeros c.loop-i.i c.loop-i.lo c.loop-i.hi (omega arith) (omega arith) (omega arith) v.0 v.1 v.2 in
    (omega arith, omega arith, omega (arith, r.0), omega (arith, r.1))

pub overflow_add-lo : goal.overflow_add-lo
overflow_add-lo c =
    let l = ends_le c.args.self.now.words c.args.self.now.bits c.args.self.now.at in omega (arith, c.loop-i.invariant.1, c.set_bits-set.ensures.bound)

pub overflow_add-hi : goal.overflow_add-hi
overflow_add-hi c =
    let v = c.loop-i.invariant in
    let r = in_reach c.wipe_rooms.new.memory c.args.selector c.args.self.now.words c.args.self.now.count c.args.zeros c.loop-i.i c.loop-i.lo c.loop-i.hi (omega arith) (omega arith) (omega arith) v.0 v.1 v.2 in
    let l = ends_le c.args.self.now.words c.args.self.now.bits c.args.self.now.at in
    omega (arith, r.1, c.set_bits-set.ensures.bound)

pub loop-i-preserved : goal.loop-i-preserved
loop-i-preserved c =
    let mid = c.wipe_rooms.new.memory in
    let now = c.loop-i.memory in
    let is = c.part_words.new.memory in
    let sel = c.args.selector in
    let b = c.args.self.now.words in
    let i = c.loop-i.i in
    let lo = c.loop-i.lo in
    let hi = c.loop-i.hi in
    let v = c.loop-i.invariant in
    let s = selection c.selecting-high.result in
    let e : s ≡ get_or now (sel + i) 0 = c.selecting-high.ensures in
    let w : s ≡ get_or mid (sel + i) 0 = e ∙ v.5.0 (sel + i) (omega arith) in
    let n = counts_on mid sel b c.args.self.now.count c.args.zeros i lo hi (omega arith) (omega arith) (omega arith) v.0 v.1 v.2 s w c.set_bits-set.result
    (c.set_bits-set.ensures.value ∙ ap (λ x. sum_to (bit_of x) 64) (sym e)) c.set_bits-set.ensures.bound in (
      v.0,
      n.0,
      n.1,
      v.3,
      parted_on mid sel b c.args.self.now.count c.args.zeros i lo hi (omega arith) (omega arith) (omega arith) v.0 v.1 v.2 s w (selection c.leaving-low.result)
          (λ p h. c.leaving-low.ensures p h ∙ ap (λ x. 1 - bit_of x p) (sym e)) now is c.args.self.now.bits c.args.self.now.at v.3 v.4 c.part_words.ensures.grown,
      outside_then _ _ mid now is v.5 c.part_words.ensures.outside,
    )

pub returns : goal.returns
returns c =
    let was = c.args.memory.now in
    let mid = c.wipe_rooms.new.memory in
    let is = c.fill_planes.new.memory in
    let k : c.loop-i.i ≡ c.args.self.now.words = omega arith in
    let o = c.wipe_rooms.ensures.outside in
    let v = c.loop-i.invariant in
    record {
      routed = parted_end was mid c.args.selector c.args.self.now.at c.args.self.now.words c.args.self.now.count c.args.zeros c.args.self.now.bits (omega arith) (omega arith) o c.wipe_rooms.ensures.wiped
          c.loop-i.memory is v.0 (rw k at v.4) c.fill_planes.ensures.filled;
      outside = outside_then _ _ was mid is o (outside_then _ _ mid c.loop-i.memory is v.5 c.fill_planes.ensures.outside);
    }
