use Rattle.std.proofs.Common.{◌≡◌, ℕ, ◌+◌, ◌*◌, ◌≤◌, List, length, get_or, sym, ap, ◌∙◌, arith}
use Rattle.std.specs.List.{between}
use Rattle.gather.specs.Bits.{sum_to}
use Rattle.levels.specs.Planes.{bit_at}
use Rattle.levels.proofs.Ends.{room_for}
use Rattle.levels.proofs.Frames.{cut_counts_length, cut_plane, cut_plane_length, cut_put, part_sums}
use Rattle.gather.proofs.Parts.{part_after, part_before, part_in}
use Rattle.levels.proofs.span.Span.tally.Goals as goal

pub slice_bounds-tally-end-3 : goal.slice_bounds-tally-end-3
slice_bounds-tally-end-3 c =
    let s = c.args.self.now in
    let v = c.split_at_mut-before in
    let room : s.at + (2 * s.words + 2) ≤ length c.args.memory.now = omega (arith, room_for s.words s.bits s.at c.requires.1) in
    sym (cut_counts_length c.args.memory.now v.result.0.now v.result.1.now s.at s.words room v.ensures.front v.ensures.back)

pub tally-requires : goal.tally-requires
tally-requires c =
    let s = c.args.self.now in
    let v = c.split_at_mut-before in
    let room : s.at + (2 * s.words + 2) ≤ length c.args.memory.now = omega (arith, room_for s.words s.bits s.at c.requires.1) in
    let p = cut_plane_length c.args.memory.now v.result.0.now v.result.1.now s.at s.words room v.ensures.front v.ensures.back in
    let q = cut_counts_length c.args.memory.now v.result.0.now v.result.1.now s.at s.words room v.ensures.front v.ensures.back in
    (omega (arith, p, q), omega (arith, p))

pub returns : goal.returns
returns c =
    let s = c.args.self.now in
    let ws = c.args.memory.now in
    let v = c.split_at_mut-before in
    let m = s.at + 1 + s.words in
    let made = c.tally.new.counts in
    let plane = between (s.at + 1) (length v.result.0.now) v.result.0.now in
    let room : s.at + (2 * s.words + 2) ≤ length ws = omega (arith, room_for s.words s.bits s.at c.requires.1) in
    let p = cut_plane_length ws v.result.0.now v.result.1.now s.at s.words room v.ensures.front v.ensures.back in
    let q = cut_counts_length ws v.result.0.now v.result.1.now s.at s.words room v.ensures.front v.ensures.back in
    let put = cut_put ws v.result.0.now v.result.1.now s.at s.words room v.ensures.front v.ensures.back made in
    let same = cut_plane ws v.result.0.now v.result.1.now s.at s.words room v.ensures.front v.ensures.back in
    let size : length made ≡ s.words + 1 = c.tally.auto.counts ∙ q in
    record {
      total = c.tally.ensures.total ∙ ap (λ n. sum_to (bit_at plane) (64 * n)) p ∙ part_sums plane ws (s.at + 1) s.words same (64 * s.words) (omega arith);
      counts = λ i l.
          ap (λ (x : List ℕ). get_or x (m + i) 0) put ∙ part_in m (s.words + 1) ws made i (omega arith) (omega arith)
          ∙ c.tally.ensures.counts i (omega arith) ∙ part_sums plane ws (s.at + 1) s.words same (64 * i) (omega arith);
      outside = (
        λ i l. ap (λ (x : List ℕ). get_or x i 0) put ∙ part_before m (s.words + 1) ws made i l (omega arith),
        λ i l. ap (λ (x : List ℕ). get_or x i 0) put ∙ part_after m (s.words + 1) ws made i size (omega arith) (omega arith),
      );
    }
