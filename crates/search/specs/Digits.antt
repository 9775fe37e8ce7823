-- How many binary digits a number has, counted without leading zeros.
use Rattle.std.specs.Prelude.{ℕ, zero, suc, ◌+◌, ◌-◌, ◌/◌, ◌^◌, ◌<◌, ◌≤◌, cond, ◌==◌}

-- the digits of n, of which there are at most the first argument
unfoldable pub digits_in : ℕ → ℕ → ℕ
digits_in zero n = 0
digits_in (suc f) n = cond (n == 0) 0 (digits_in f (n / 2) + 1)

-- the digits of a 64-bit number
unfoldable pub digits : ℕ → ℕ
digits n = digits_in 64 n

-- the law of digits: a number of d digits is below 2 ^ d, and not below 2 ^ (d - 1)
abbrev pub HasDigits : ℕ → ℕ → Type 0
HasDigits n d = 0 < n → n < 2 ^ 64 → (2 ^ (d - 1) ≤ n) × (n < 2 ^ d)
