-- The levels of a list of numbers: a plane of bits for each binary digit, from the highest down.
use Rattle.std.specs.Prelude.{ℕ, zero, suc, ◌+◌, ◌-◌, ◌*◌, ◌<◌, List, [], ◌∷◌, ◌++◌, map, length, take, drop, sum, count_by, filter, nat_eq, nat_lt, slice_index}
use Rattle.std.specs.Int.Count.{count_leading_zeros}
use Rattle.std.specs.List.{range_with_len}
use Rattle.gather.specs.Bits.{bit_of}

-- the number with these bits, the lowest first
unfoldable pub pack : List ℕ → ℕ
pack [] = 0
pack (x ∷ xs) = x + 2 * pack xs

-- b words of bits, 64 to a word; bits past the list's end are zero
unfoldable pub packed : ℕ → List ℕ → List ℕ
packed b bits = map (λ i. pack (take 64 (drop (64 * i) bits))) (range_with_len 0 b)

-- how many ones stand before each of b words, and in all
unfoldable pub running : ℕ → List ℕ → List ℕ
running b bits = map (λ i. sum (take (64 * i) bits)) (range_with_len 0 (b + 1))

-- a level: its number of zero bits, the bits, and the running counts of ones
abbrev pub level : ℕ → List ℕ → List ℕ
level b bits = (length bits - sum bits) ∷ (packed b bits ++ running b bits)

-- bit t of each number
abbrev pub plane : ℕ → List ℕ → List ℕ
plane t cs = map (λ c. bit_of c t) cs

-- the numbers with a zero at bit t, then those with a one, each group in its order
abbrev pub sorted : ℕ → List ℕ → List ℕ
sorted t cs = filter (λ c. nat_eq (bit_of c t) 0) cs ++ filter (λ c. nat_eq (bit_of c t) 1) cs

-- the levels for the bits below t, the highest first: each has the numbers in the order that the ones above it leave
unfoldable pub levels : ℕ → ℕ → List ℕ → List ℕ
levels b zero cs = []
levels b (suc t) cs = level b (plane t cs) ++ levels b t (sorted t cs)

-- how many of the numbers are below x
abbrev pub numbers_below : ℕ → List ℕ → ℕ
numbers_below x cs = count_by (λ c. nat_lt c x) cs

-- each of the numbers is below x
abbrev pub AllBelow : ℕ → List ℕ → Type 0
AllBelow x cs = (q : ℕ) → q < length cs → slice_index cs q < x

-- how many binary digits a 32-bit number has, none for 0
abbrev pub digits : ℕ → ℕ
digits m = 32 - count_leading_zeros 32 m
