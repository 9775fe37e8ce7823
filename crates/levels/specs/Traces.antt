-- How levels are checked: each agrees with itself, and each number is found on its way down.
use Rattle.std.specs.Prelude.{◌≡◌, ℕ, zero, suc, ◌+◌, ◌-◌, ◌*◌, ◌<◌, ◌≤◌, cond, List, ◌==◌, slice_index}
use Rattle.gather.specs.Bits.{bit_of, sum_to}
use Rattle.levels.specs.Planes.{bits_from}

-- a level of n bits agrees with itself: its number of zero bits, its running counts, and zero bits from n on
abbrev pub Stands : ℕ → ℕ → List ℕ → ℕ → Type 0
Stands b n ws at =
    (slice_index ws at ≡ n - sum_to (bits_from ws (at + 1)) (64 * b))
    × ((i : ℕ) → i ≤ b → slice_index ws (at + 1 + b + i) ≡ sum_to (bits_from ws (at + 1)) (64 * i))
    × ((k : ℕ) → n ≤ k → k < 64 * b → bits_from ws (at + 1) k ≡ 0)

-- so does each of t levels
unfoldable pub AllStand : ℕ → ℕ → ℕ → List ℕ → ℕ → Type 0
AllStand b zero n ws at = Unit {0}
AllStand b (suc t) n ws at = Stands b n ws at × AllStand b t n ws (at + (2 * b + 2))

-- where position q of a level goes in the next one: among the zeros, or after all of them among the ones
abbrev pub onward : List ℕ → ℕ → ℕ → ℕ
onward ws at q =
    cond (bits_from ws (at + 1) q == 0) (q - sum_to (bits_from ws (at + 1)) q) (slice_index ws at + sum_to (bits_from ws (at + 1)) q)

-- the bits of c stand on its way down from position q
unfoldable pub Traced : ℕ → ℕ → List ℕ → ℕ → ℕ → ℕ → Type 0
Traced b zero ws at q c = Unit {0}
Traced b (suc t) ws at q c = (bits_from ws (at + 1) q ≡ bit_of c t) × Traced b t ws (at + (2 * b + 2)) (onward ws at q) c
