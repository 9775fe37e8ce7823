-- Counting by the lowest bits of numbers.
use Rattle.std.specs.Prelude.{ℕ, ◌%◌, ◌^◌, Bool, List, count_by, nat_lt}

-- whether c is below x, both by their t lowest bits alone
abbrev pub less : ℕ → ℕ → ℕ → Bool
less t x c = nat_lt (c % 2 ^ t) (x % 2 ^ t)

unfoldable pub count_less : ℕ → ℕ → List ℕ → ℕ
count_less t x cs = count_by (less t x) cs
