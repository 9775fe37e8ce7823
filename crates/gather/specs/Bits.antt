-- The bits of a number.
use Rattle.std.specs.Prelude.{ℕ, zero, suc, ◌+◌, ◌/◌, ◌%◌, ◌^◌}

-- bit s of a number, the lowest being bit 0
unfoldable pub bit_of : ℕ → ℕ → ℕ
bit_of w s = w / 2 ^ s % 2

-- the sum of f over the places below k; of bits, how many are set there
unfoldable pub sum_to : (ℕ → ℕ) → ℕ → ℕ
sum_to f zero = 0
sum_to f (suc k) = sum_to f k + f k
