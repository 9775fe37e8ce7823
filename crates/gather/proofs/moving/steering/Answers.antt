use Rattle.std.proofs.Common.{◌≡◌, ◌+◌, ◌-◌, ◌*◌, ◌%◌, ◌^◌, ◌≤◌, length, get_or, sym, ap, ◌∙◌, subst, arith, below_more}
use Rattle.std.specs.List.{between}
use Rattle.std.proofs.lemmas.List.Edits.{get_or-between, length-between}
use Rattle.gather.specs.Gathered.{Along, Steers, Stepped}
use Rattle.gather.proofs.Moves.{go_along, places, steer}
use borrow.Rule.Slice.PartMut.{put_mid}
use Rattle.gather.proofs.Parts.{part_before, part_in}
use Rattle.gather.proofs.moving.steering.Goals as goal

pub loop-i-preserved : goal.loop-i-preserved
loop-i-preserved c =
    let s = c.args.selected in
    let i = c.loop-i.i in
    let was = c.loop-i.steps in
    let now = c.step_each.new.words in
    let down = get_or was i 0 in
    let here : Along s i i down = c.loop-i.invariant.1 i (omega arith) c.loop-i-test.true in
    let known : Steers s i down = steer s i here.0 down here.1.1 here.1.0 in
    let size : length (between (i + 1) 6 was) ≡ 6 - (i + 1) = length-between was (i + 1) 6 (omega arith) in
    let start : i + 1 ≤ length was = omega arith in (
      λ k h.
          subst (λ x. Steers s k x) (sym (part_before (i + 1) (6 - (i + 1)) was now k h start))
          (below_more (λ n. Steers s n (get_or was n 0)) i c.loop-i.invariant.0 known k h),
      λ k h m.
          let j = k - (i + 1) in
          let e : i + 1 + j ≡ k = omega arith in
          let read : get_or (between (i + 1) 6 was) j 0 ≡ get_or was k 0 = get_or-between was (i + 1) 6 j 0 (omega arith) ∙ ap (λ x. get_or was x 0) e in
          let written : get_or now j 0 ≡ get_or (put_mid (i + 1) (6 - (i + 1)) was now) k 0 =
          sym (part_in (i + 1) (6 - (i + 1)) was now j (omega arith) start) ∙ ap (λ x. get_or (put_mid (i + 1) (6 - (i + 1)) was now) x 0) e in
          subst (Along s (i + 1) k) written
          (go_along s i k down (get_or was k 0) (get_or now j 0) (1 * 2 ^ i % 2 ^ 32) (places i c.loop-i-test.true) known (c.loop-i.invariant.1 k (omega arith) m)
          (subst (λ y. Stepped y down (1 * 2 ^ i % 2 ^ 32) (get_or now j 0)) read (c.step_each.ensures j (omega arith)))),
    )
