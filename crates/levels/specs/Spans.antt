-- Levels one after another in memory, from word `at` on; each takes 2 * b + 2 words.
use Rattle.std.specs.Prelude.{◌≡◌, ℕ, zero, suc, ◌+◌, ◌*◌, ◌^◌, ◌<◌, ◌≤◌, List, slice_index}
use Rattle.gather.specs.Bits.{bit_of}
use Rattle.levels.specs.Planes.{Routed, bits_from}

-- where t levels end
unfoldable pub ends : ℕ → ℕ → ℕ → ℕ
ends b zero at = at
ends b (suc t) at = ends b t (at + (2 * b + 2))

-- the planes hold the numbers in their order: bit t - 1 of each in the first plane, and so on down; bits past the numbers
-- are zero
unfoldable pub Holds : ℕ → ℕ → List ℕ → List ℕ → ℕ → Type 0
Holds b zero cs ws at = Unit {0}
Holds b (suc t) cs ws at =
    ((k : ℕ) → k < 64 * b → bits_from ws (at + 1) k ≡ bit_of (slice_index cs k) t) × Holds b t cs ws (at + (2 * b + 2))

-- the planes have zero bits from n on
unfoldable pub Tails : ℕ → ℕ → ℕ → List ℕ → ℕ → Type 0
Tails b zero n ws at = Unit {0}
Tails b (suc t) n ws at =
    ((k : ℕ) → n ≤ k → k < 64 * b → bits_from ws (at + 1) k ≡ 0) × Tails b t n ws (at + (2 * b + 2))

-- each plane has its first n bits in the order of `sel`, and zero bits after them
unfoldable pub AllRouted : (ℕ → ℕ) → ℕ → ℕ → ℕ → List ℕ → List ℕ → ℕ → Type 0
AllRouted sel b n zero was is at = Unit {0}
AllRouted sel b n (suc t) was is at =
    Routed sel b n (bits_from was (at + 1)) (bits_from is (at + 1)) × AllRouted sel b n t was is (at + (2 * b + 2))

-- the number whose bits stand at position q of t planes
unfoldable pub value_at : ℕ → ℕ → List ℕ → ℕ → ℕ → ℕ
value_at b zero ws at q = 0
value_at b (suc t) ws at q = bits_from ws (at + 1) q * 2 ^ t + value_at b t ws (at + (2 * b + 2)) q
