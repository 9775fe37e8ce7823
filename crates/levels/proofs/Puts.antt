-- Bits that join words and planes.
use Rattle.std.proofs.Common.{◌≡◌, ℕ, suc, ◌+◌, ◌-◌, ◌*◌, ◌/◌, ◌%◌, ◌^◌, ◌<◌, ◌≤◌, max, List, get_or, sym, ap, ◌∙◌, ap₂, ⊎_elim, lt_of_lt_of_le, arith, pow_mono}
use native.Mathlib.Nat.{div-eq_of_lt, max-zero, zero-max}
use lib.Bits.{bit_or}
use Rattle.std.proofs.lemmas.Nat.{mod_below}
use Rattle.std.proofs.lemmas.Bool.{cases_lt}
use Rattle.gather.specs.Bits.{bit_of}
use Rattle.gather.proofs.Bitwise.{bit_high, bit_lt, bit_none, bit-or, or_bits, shl_high, shl_low}
use Rattle.levels.specs.Planes.{Outside, bit_at, bits_from}
use Rattle.levels.specs.Spans.{ends, value_at}
use Rattle.levels.specs.Streams.{within}
use Rattle.levels.proofs.Appends.{within_yes}
use Rattle.levels.proofs.Ends.{ends_more, room_for}
use Rattle.levels.proofs.Frames.{bits_before, bits_from_word}
use Rattle.levels.proofs.Values.{low_split, value_more, value_same, value_zero}

pub joined_bits : (w v j : ℕ) → bit_of (bit_or w v) j ≡ max (bit_of w j) (bit_of v j)
joined_bits w v j = bit-or w v j ∙ or_bits (bit_of w j) (bit_of v j) (bit_lt w j) (bit_lt v j)

lowest : (x : ℕ) → x < 2 → bit_of x 0 ≡ x
unfolding bit_of
lowest x h = omega arith

higher : (x s : ℕ) → x < 2 → 1 ≤ s → bit_of x s ≡ 0
unfolding bit_of
higher x s h l = let p : 2 ^ 1 ≤ 2 ^ s = pow_mono l in ap (λ y. y % 2) (div-eq_of_lt (lt_of_lt_of_le h p))

-- one bit joins a word at place k
module _ (w bit k : ℕ) (two : bit < 2) (l : k < 64) where
  pub join_below : (j : ℕ) → j < k → bit_of (bit_or w (bit * 2 ^ k % 2 ^ 64)) j ≡ bit_of w j
  join_below j h = joined_bits w (bit * 2 ^ k % 2 ^ 64) j ∙ ap (λ x. max (bit_of w j) x) (shl_low bit k j h (omega arith)) ∙ max-zero (bit_of w j)

  pub join_here : bit_of w k ≡ 0 → bit_of (bit_or w (bit * 2 ^ k % 2 ^ 64)) k ≡ bit
  join_here z =
      let e : k - k ≡ 0 = omega arith in
      joined_bits w (bit * 2 ^ k % 2 ^ 64) k
      ∙ ap₂ (λ x y. max x y) z (shl_high bit k k (omega arith) l ∙ ap (λ x. bit_of bit x) e ∙ lowest bit two) ∙ zero-max bit

  above : (j : ℕ) → k < j → bit_of (bit * 2 ^ k % 2 ^ 64) j ≡ 0
  above j h =
      ⊎_elim (λ (m : j < 64). shl_high bit k j (omega arith) m ∙ higher bit (j - k) two (omega arith))
      (λ (m : 64 ≤ j). bit_high (bit * 2 ^ k % 2 ^ 64) j (mod_below (bit * 2 ^ k) (2 ^ 64) (omega arith)) m)
      (cases_lt j 64)

  pub join_above : (j : ℕ) → k < j → bit_of (bit_or w (bit * 2 ^ k % 2 ^ 64)) j ≡ bit_of w j
  join_above j h = joined_bits w (bit * 2 ^ k % 2 ^ 64) j ∙ ap (λ x. max (bit_of w j) x) (above j h) ∙ max-zero (bit_of w j)

-- the highest bits of 64 numbers have joined word `word` of the first plane, giving `mid`, and the others the planes below,
-- giving `is`
module _ (was mid is numbers : List ℕ) (at b t word v : ℕ) (p : 0 < t) (l : word < b)
    (col : (k : ℕ) → k < 64 → bit_of v k ≡ bit_of (get_or numbers k 0) (t - 1))
    (bits : (d : ℕ) → bit_at mid d ≡ max (bit_at was d) (within (at + 1 + word) v d))
    (words : (i : ℕ) → (i ≡ at + 1 + word → ⊥) → get_or mid i 0 ≡ get_or was i 0)
    (out : Outside (at + (2 * b + 2)) (ends b (t - 1) (at + (2 * b + 2))) mid is) where
  first : (q : ℕ) → q < 64 * b → bits_from is (at + 1) q ≡ bits_from mid (at + 1) q
  first q m = bits_before _ _ mid is out (at + 1) q (omega arith)

  pub lower_same : (q : ℕ) → value_at b (t - 1) mid (at + (2 * b + 2)) q ≡ value_at b (t - 1) was (at + (2 * b + 2)) q
  lower_same q = value_same b (t - 1) was mid (at + (2 * b + 2)) q (λ i m. words i (λ e. omega arith))

  joined : (k : ℕ) → k < 64 → bits_from is (at + 1) (64 * word + k) ≡ max (bits_from was (at + 1) (64 * word + k)) (bit_of (get_or numbers k 0) (t - 1))
  joined k m =
      let d = 64 * (at + 1) + (64 * word + k) in
      let q : d / 64 ≡ at + 1 + word = omega arith in
      let s : d % 64 ≡ k = omega arith in
      first (64 * word + k) (omega arith) ∙ bits d ∙ ap (λ x. max (bit_at was d) x) (within_yes (at + 1 + word) v d q ∙ ap (λ x. bit_of v x) s ∙ col k m)

  pub put_here : (k : ℕ) → k < 64 → value_at b t was at (64 * word + k) ≡ 0
      → (value_at b (t - 1) mid (at + (2 * b + 2)) (64 * word + k) ≡ 0 → value_at b (t - 1) is (at + (2 * b + 2)) (64 * word + k) ≡ get_or numbers k 0 % 2 ^ (t - 1))
      → value_at b t is at (64 * word + k) ≡ get_or numbers k 0 % 2 ^ t
  put_here k m z ih =
      let y = value_zero b t p was at (64 * word + k) z in
      let e : suc (t - 1) ≡ t = omega arith in
      value_more b t p is at (64 * word + k)
      ∙ ap₂ (λ x y. x * 2 ^ (t - 1) + y) (joined k m ∙ ap (λ x. max x (bit_of (get_or numbers k 0) (t - 1))) y.0 ∙ zero-max (bit_of (get_or numbers k 0) (t - 1)))
      (ih (lower_same (64 * word + k) ∙ y.1))
      ∙ sym (low_split (t - 1) (get_or numbers k 0)) ∙ ap (λ x. get_or numbers k 0 % 2 ^ x) e

  pub put_kept : (k : ℕ) → k < 64 → get_or numbers k 0 ≡ 0
      → value_at b (t - 1) is (at + (2 * b + 2)) (64 * word + k) ≡ value_at b (t - 1) mid (at + (2 * b + 2)) (64 * word + k)
      → value_at b t is at (64 * word + k) ≡ value_at b t was at (64 * word + k)
  put_kept k m z ih =
      value_more b t p is at (64 * word + k)
      ∙ ap₂ (λ x y. x * 2 ^ (t - 1) + y)
      (joined k m ∙ ap (λ x. max (bits_from was (at + 1) (64 * word + k)) x) (ap (λ x. bit_of x (t - 1)) z ∙ bit_none (t - 1)) ∙ max-zero (bits_from was (at + 1) (64 * word + k)))
      (ih ∙ lower_same (64 * word + k))
      ∙ sym (value_more b t p was at (64 * word + k))

  pub put_others : (q : ℕ) → (q / 64 ≡ word → ⊥) → q < 64 * b
      → value_at b (t - 1) is (at + (2 * b + 2)) q ≡ value_at b (t - 1) mid (at + (2 * b + 2)) q → value_at b t is at q ≡ value_at b t was at q
  put_others q n m ih =
      value_more b t p is at q
      ∙ ap₂ (λ x y. x * 2 ^ (t - 1) + y)
      (first q m ∙ bits_from_word mid (at + 1) q ∙ ap (λ x. bit_of x (q % 64)) (words (at + 1 + q / 64) (λ e. n (omega arith))) ∙ sym (bits_from_word was (at + 1) q))
      (ih ∙ lower_same q)
      ∙ sym (value_more b t p was at q)

  pub put_outside : Outside at (ends b t at) was is
  put_outside =
      let e = ends_more b t at p in
      let r = room_for b t at p in (
        λ i m. out.0 i (omega arith) ∙ words i (λ x. omega arith),
        λ i m. out.1 i (omega arith) ∙ words i (λ x. omega arith),
      )
