-- The bits of a word at the set bits of another, brought together, and the way of each of them there.
use Rattle.std.specs.Prelude.{◌≡◌, ℕ, ◌+◌, ◌-◌, ◌*◌, ◌%◌, ◌^◌, ◌<◌, max}
use Rattle.gather.specs.Bits.{bit_of, sum_to}

-- the bits of x at the set bits of s stand together from bit 0 on, in their order, and no other
pub record Gathered (s x y : ℕ) : Type 0 where
  pub kept : (p : ℕ) → p < 64 → bit_of s p ≡ 1 → bit_of y (sum_to (bit_of s) p) ≡ bit_of x p
  pub rest : (j : ℕ) → bit_of y j ≡ 1 → (p : ℕ) × ((p < 64) × (bit_of s p ≡ 1) × (sum_to (bit_of s) p ≡ j))

-- how many bits below p are not set
abbrev pub gap : ℕ → ℕ → ℕ
gap s p = p - sum_to (bit_of s) p

-- where the bit at p stands when it has gone as far as the i lowest digits of its gap say
abbrev pub spot : ℕ → ℕ → ℕ → ℕ
spot s i p = p - gap s p % 2 ^ i

-- m says of each bit that has gone so far whether it goes on by 2 ^ i
abbrev pub Steers : ℕ → ℕ → ℕ → Type 0
Steers s i m = (p : ℕ) → p < 64 → bit_of s p ≡ 1 → bit_of m (spot s i p) ≡ bit_of (gap s p) i

-- y holds the bits of x at the set bits of s, each as far as i steps take it, and no other
pub record Moved (s i x y : ℕ) : Type 0 where
  pub kept : (p : ℕ) → p < 64 → bit_of s p ≡ 1 → bit_of y (spot s i p) ≡ bit_of x p
  pub rest : (j : ℕ) → bit_of y j ≡ 1 → (p : ℕ) × ((p < 64) × (bit_of s p ≡ 1) × (spot s i p ≡ j))

-- z holds the bits of y, those at the set bits of m k places down
abbrev pub Stepped : ℕ → ℕ → ℕ → ℕ → Type 0
Stepped y m k z = (j : ℕ) → bit_of z j ≡ max (bit_of y j * (1 - bit_of m j)) (bit_of y (j + k) * bit_of m (j + k))

-- bit k of the number of bits not set below each place
abbrev pub Digit : ℕ → ℕ → ℕ → Type 0
Digit s k d = (p : ℕ) → p < 64 → bit_of d p ≡ bit_of (gap s p) k

-- y holds digit k of the gaps of the bits at the set bits of s, each as far as i steps take it
abbrev pub Along : ℕ → ℕ → ℕ → ℕ → Type 0
Along s i k y = (d : ℕ) × (Digit s k d × Moved s i d y)
