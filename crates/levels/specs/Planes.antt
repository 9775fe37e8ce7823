-- Bits in words of 64: position 64 * i + j is bit j of word i, the lowest bit being bit 0.
use Rattle.std.specs.Prelude.{◌≡◌, ℕ, zero, suc, ◌+◌, ◌*◌, ◌/◌, ◌%◌, ◌<◌, ◌≤◌, cond, List, [], ◌∷◌, ◌++◌, ◌==◌, slice_index}
use Rattle.gather.specs.Bits.{bit_of}

-- the bit at a position
unfoldable pub bit_at : List ℕ → ℕ → ℕ
bit_at ws k = bit_of (slice_index ws (k / 64)) (k % 64)

-- the bits from word a on
abbrev pub bits_from : List ℕ → ℕ → ℕ → ℕ
bits_from ws a k = bit_at ws (64 * a + k)

-- the words outside of a up to, not including, e are as they were
abbrev pub Outside : ℕ → ℕ → List ℕ → List ℕ → Type 0
Outside a e was is = ((i : ℕ) → i < a → slice_index is i ≡ slice_index was i) × ((i : ℕ) → e ≤ i → slice_index is i ≡ slice_index was i)

-- the positions below k whose bit is v, in order
unfoldable pub chosen : (ℕ → ℕ) → ℕ → ℕ → List ℕ
chosen f v zero = []
chosen f v (suc k) = cond (f k == v) (chosen f v k ++ k ∷ []) (chosen f v k)

-- the positions below n: those with a zero bit, then those with a one, each in order
abbrev pub route : (ℕ → ℕ) → ℕ → List ℕ
route f n = chosen f 0 n ++ chosen f 1 n

-- of 64 * b bits, the first n are those of `was` in the order of `sel`, and the others are zero
abbrev pub Routed : (ℕ → ℕ) → ℕ → ℕ → (ℕ → ℕ) → (ℕ → ℕ) → Type 0
Routed sel b n was is =
    ((d : ℕ) → d < n → is d ≡ was (slice_index (route sel n) d)) × ((d : ℕ) → n ≤ d → d < 64 * b → is d ≡ 0)
