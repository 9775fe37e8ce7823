-- A step down the levels in a count.
use Rattle.std.proofs.Common.{◌≡◌, ℕ, suc, ◌+◌, ◌-◌, ◌*◌, ◌≤◌, List, length, get_or, take, filter, sym, ap, ◌∙◌, ap₂, arith}
use Rattle.std.specs.List.{between}
use Rattle.std.proofs.lemmas.List.Edits.{length-between}
use Rattle.std.proofs.lemmas.List.{length-map, length-take-le, take_all}
use Rattle.gather.specs.Bits.{bit_of, sum_to}
use Rattle.levels.specs.Counting.{count_less}
use Rattle.levels.specs.Numbers.{level, levels, plane, sorted}
use Rattle.levels.specs.Planes.{bits_from}
use Rattle.levels.specs.Spans.{ends}
use Rattle.levels.proofs.Counts.{count_nil, count_one}
use Rattle.levels.proofs.Finals.{length_sorted}
use Rattle.levels.proofs.Leveled.{bits_plane, down_one, down_zero, kept_two, length_hi, one_at, ones-before, sum_plane, zero_at}
use Rattle.levels.proofs.Regions.{sum_to_bits}
use Rattle.levels.proofs.Traces.{bit-at, level_parts, stands_at, zero-at}

module _ (ws cs : List ℕ) (b t at from to x : ℕ) (fit : length cs ≤ 64 * b) (room : ends b (suc t) at ≤ length ws) (wide : at + (2 * b + 2) ≤ length ws)
    (e : between at (ends b (suc t) at) ws ≡ levels b (suc t) cs) (l : from ≤ to) (h : to ≤ length cs) where
  first : between at (at + (2 * b + 2)) ws ≡ level b (plane t cs)
  first = (level_parts ws cs b t at room e).0

  pub rest : between (at + (2 * b + 2)) (ends b t (at + (2 * b + 2))) ws ≡ levels b t (sorted t cs)
  rest = (level_parts ws cs b t at room e).1

  same_length : length (plane t cs) ≡ length cs
  same_length = length-map cs (λ c. bit_of c t)

  pub counts_right : (i : ℕ) → i ≤ b → get_or ws (at + 1 + b + i) 0 ≡ sum_to (bits_from ws (at + 1)) (64 * i)
  counts_right = (stands_at ws (plane t cs) at b wide first (bits_plane t cs) (omega (arith, same_length))).1

  ones_are : (k : ℕ) → k ≤ length cs → sum_to (bits_from ws (at + 1)) k ≡ length (filter (one_at t) (take k cs))
  ones_are k m =
      sum_to_bits (bits_from ws (at + 1)) (plane t cs) k (λ j q. bit-at ws (plane t cs) at b wide first (bits_plane t cs) j (omega arith)) ∙ ones-before t cs k

  zeros_before : (k : ℕ) → k ≤ length cs → k - sum_to (bits_from ws (at + 1)) k ≡ length (filter (zero_at t) (take k cs))
  zeros_before k m = omega (arith, ones_are k m, kept_two t (take k cs), length-take-le k cs m)

  pub zeros_all : get_or ws at 0 ≡ length (filter (zero_at t) cs)
  zeros_all = omega (arith, zero-at ws (plane t cs) at b wide first, same_length, sum_plane t cs, kept_two t cs)

  all_sorted : length (filter (zero_at t) cs) + length (filter (one_at t) cs) ≡ length (sorted t cs)
  all_sorted = kept_two t cs ∙ sym (length_sorted t cs)

  -- the whole list, as far as it goes
  whole : (p : ℕ → mathlib.Core.Bool.Bool) → (k : ℕ) → k ≤ length cs → length (filter p (take k cs)) ≤ length (filter p cs)
  whole p k m = omega (arith, length_hi p cs k (length cs) m, ap (λ y. length (filter p y)) (take_all (length cs) cs (omega arith)))

  module _ (from' to' : ℕ) where
    pub to_zeros : bit_of x t ≡ 0 → from' ≡ from - sum_to (bits_from ws (at + 1)) from → to' ≡ to - sum_to (bits_from ws (at + 1)) to
        → (from' ≤ to') × (to' ≤ length (sorted t cs)) × (count_less t x (between from' to' (sorted t cs)) ≡ count_less (suc t) x (between from to cs))
    to_zeros z p q =
        let a = zeros_before from (omega arith) in
        let d = zeros_before to h in
        let g = length_hi (zero_at t) cs from to l in
        let w = whole (zero_at t) to h in (
          omega arith,
          omega (arith, all_sorted),
          ap₂ (λ y u. count_less t x (between y u (sorted t cs))) (p ∙ a) (q ∙ d) ∙ ap (λ y. count_less t x y) (down_zero t cs from to l) ∙ sym (count_nil t x z (between from to cs)),
        )

    pub to_ones : bit_of x t ≡ 1 → from' ≡ get_or ws at 0 + sum_to (bits_from ws (at + 1)) from → to' ≡ get_or ws at 0 + sum_to (bits_from ws (at + 1)) to
        → (from' ≤ to') × (to' ≤ length (sorted t cs))
        × (((to - from) - (sum_to (bits_from ws (at + 1)) to - sum_to (bits_from ws (at + 1)) from)) + count_less t x (between from' to' (sorted t cs)) ≡ count_less (suc t) x (between from to cs))
    to_ones o p q =
        let a = ones_are from (omega arith) in
        let d = ones_are to h in
        let g = length_hi (one_at t) cs from to l in
        let w = whole (one_at t) to h in
        let k = kept_two t (between from to cs) in
        let n = length-between cs from to h in
        let c : count_less t x (between from' to' (sorted t cs)) ≡ count_less t x (filter (one_at t) (between from to cs)) =
        ap₂ (λ y u. count_less t x (between y u (sorted t cs))) (p ∙ ap₂ (λ y u. y + u) zeros_all a) (q ∙ ap₂ (λ y u. y + u) zeros_all d)
        ∙ ap (λ y. count_less t x y) (down_one t cs from to l) in (
          omega arith,
          omega (arith, all_sorted, zeros_all),
          omega (arith, count_one t x o (between from to cs)),
        )
