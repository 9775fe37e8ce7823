use Rattle.std.proofs.Common.{◌≡◌, ℕ, ◌-◌, ◌/◌, ◌<◌, ◌≤◌, length, get_or, rules, ◌∙◌, subst, arith}
use borrow.Rule.Slice.PartMut.{put_mid}
use Rattle.std.proofs.lemmas.List.Edits.{length-between}
use Rattle.gather.proofs.Parts.{part_in}
use Rattle.levels.specs.Planes.{Outside}
use Rattle.levels.proofs.Ends.{ends_le}
use Rattle.levels.proofs.Frames.{bits_zero}
use Rattle.levels.proofs.Rooms.{part_outside}
use Rattle.levels.proofs.Values.{value_wiped}
use Rattle.levels.proofs.layout.Layout.clear.Goals as goal

pub returns-then-end-memory : goal.returns-then-end-memory
returns-then-end-memory c =
    let l = c.args.self.now in
    let ws = c.args.memory.now in
    let zeros = c.fill.new.self in
    let end = c.end-end.result in
    let is = put_mid l.start (end - l.start) ws zeros in
    let e = c.end-end.ensures.value in
    let s : l.start ≤ end = omega (arith, ends_le l.words l.bits l.start) in
    let size : length zeros ≡ end - l.start = c.fill.ensures.len ∙ length-between ws l.start end (omega arith) in
    let zero : (i : ℕ) → i < end - l.start → get_or zeros i 0 ≡ 0 = λ i h. search rules in
    record {
      zero = λ r q h.
          value_wiped l.words l.bits is l.start (end - l.start) l.start q
          (λ d m. bits_zero is l.start d (part_in l.start (end - l.start) ws zeros (d / 64) (omega arith) (omega arith) ∙ zero (d / 64) (omega arith)))
          (omega arith) (omega arith) h;
      outside = subst (λ x. Outside l.start x ws is) e (part_outside l.start end ws zeros s (omega arith) size);
    }
