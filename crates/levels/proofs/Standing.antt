-- A level by its parts: its plane and its running counts.
use Rattle.std.proofs.Common.{◌≡◌, ℕ, ◌+◌, ◌*◌, ◌≤◌, List, length, get_or, sym, ap, ◌∙◌, arith}
use Rattle.std.specs.List.{between}
use Rattle.std.proofs.lemmas.List.Edits.{get_or-between, length-between}
use Rattle.gather.specs.Bits.{sum_to}
use Rattle.levels.specs.Planes.{bit_at, bits_from}
use Rattle.levels.proofs.Frames.{part_sums}

module _ (level : List ℕ) (b : ℕ) (len : length level ≡ 2 * b + 2) where
  plane_long : length (between 1 (b + 1) level) ≡ b
  plane_long = length-between level 1 (b + 1) (omega arith) ∙ omega arith

  plane_sums : (k : ℕ) → k ≤ 64 * b → sum_to (bit_at (between 1 (b + 1) level)) k ≡ sum_to (bits_from level 1) k
  plane_sums = part_sums (between 1 (b + 1) level) level 1 b (λ i l. get_or-between level 1 (b + 1) i 0 (omega arith))

  count_of : (i : ℕ) → i ≤ b → get_or (between (b + 1) (length level) level) i 0 ≡ get_or level (1 + b + i) 0
  count_of i l =
      let e : b + 1 + i ≡ 1 + b + i = omega arith in get_or-between level (b + 1) (length level) i 0 (omega arith) ∙ ap (λ x. get_or level x 0) e

  -- how many bits are set
  pub whole_sum : sum_to (bit_at (between 1 (b + 1) level)) (64 * length (between 1 (b + 1) level)) ≡ sum_to (bits_from level 1) (64 * b)
  whole_sum = ap (λ n. sum_to (bit_at (between 1 (b + 1) level)) (64 * n)) plane_long ∙ plane_sums (64 * b) (omega arith)

  -- the counts are right for the plane, and for the level
  pub right_level : ((i : ℕ) → i ≤ length (between 1 (b + 1) level) → get_or (between (b + 1) (length level) level) i 0 ≡ sum_to (bit_at (between 1 (b + 1) level)) (64 * i))
      → (i : ℕ) → i ≤ b → get_or level (1 + b + i) 0 ≡ sum_to (bits_from level 1) (64 * i)
  right_level h i l = sym (count_of i l) ∙ h i (omega (arith, plane_long)) ∙ plane_sums (64 * i) (omega arith)

  pub level_right : ((i : ℕ) → i ≤ b → get_or level (1 + b + i) 0 ≡ sum_to (bits_from level 1) (64 * i))
      → (i : ℕ) → i ≤ length (between 1 (b + 1) level) → get_or (between (b + 1) (length level) level) i 0 ≡ sum_to (bit_at (between 1 (b + 1) level)) (64 * i)
  level_right h i l =
      let m : i ≤ b = omega (arith, plane_long) in count_of i m ∙ h i m ∙ sym (plane_sums (64 * i) (omega arith))
