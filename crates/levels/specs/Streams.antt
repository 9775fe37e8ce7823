-- Bits that are added to bits.
use Rattle.std.specs.Prelude.{◌≡◌, ℕ, ◌-◌, ◌/◌, ◌%◌, ◌<◌, max, cond, ◌==◌, nat_le}
use Rattle.gather.specs.Bits.{bit_of}
use Rattle.gather.specs.Gathered.{Gathered}

-- the bits of v, from position k on
abbrev pub from : ℕ → ℕ → ℕ → ℕ
from k v d = cond {A = ℕ} (nat_le k d) (bit_of v (d - k)) 0

-- the bits of v in word i
abbrev pub within : ℕ → ℕ → ℕ → ℕ
within i v d = cond {A = ℕ} (d / 64 == i) (bit_of v (d % 64)) 0

-- the bits of x at the set bits of t are added from position lo on, and those at the set bits of s from hi on
pub record Added (t s x lo hi top : ℕ) (was is : ℕ → ℕ) : Type 0 where
  pub zb : ℕ
  pub ob : ℕ
  pub zeros : Gathered t x zb
  pub ones : Gathered s x ob
  pub bits : (d : ℕ) → d < top → is d ≡ max (max (was d) (from lo zb d)) (from hi ob d)
