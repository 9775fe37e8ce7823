-- The pattern of a grid of points, p to a line and q lines: point x of line y is row y × p + x.
use Rattle.std.specs.Prelude.{◌≡◌, ℕ, ◌+◌, ◌-◌, ◌*◌, ◌/◌, ◌%◌, ◌<◌, ◌≤◌, Bool, cond, List, [], ◌∷◌, map, nat_lt}
use Rattle.std.specs.List.{range_with_len}
use Rattle.pattern.specs.Sparsity.{Sparsity, entry_count, column_at}

-- the sides of a grid that is taken
abbrev pub Sides : ℕ → ℕ → Type 0
Sides p q = (0 < p) × (0 < q) × (p * q ≤ 1000000)

-- c before the columns cs, where b holds
abbrev when : Bool → ℕ → List ℕ → List ℕ
when b c cs = cond b (c ∷ cs) cs

-- the columns i - p, i - 1, i, i + 1 and i + p of row i, without those that leave the grid at any side
abbrev pub neighbours : ℕ → ℕ → ℕ → List ℕ
neighbours p q i =
    when (nat_lt 0 (i / p)) (i - p)
    (when (nat_lt 0 (i % p)) (i - 1) (i ∷ when (nat_lt (i % p + 1) p) (i + 1) (when (nat_lt (i / p + 1) q) (i + p) [])))

-- a row for each point; the columns 0 up to, not including, p × q are the points again
abbrev pub lattice_sparsity : ℕ → ℕ → Sparsity
lattice_sparsity p q = record { rows = map (neighbours p q) (range_with_len 0 (p * q)); column_count = p * q }

-- how far apart two numbers are
abbrev pub apart : ℕ → ℕ → ℕ
apart a b = (a - b) + (b - a)

-- column c stands in row i
abbrev pub Stands : Sparsity → ℕ → ℕ → Type 0
Stands s i c = (place : ℕ) × (place < entry_count s i) × (column_at s i place ≡ c)

-- c is the point x' of line y', at most one step along a line or across lines from the point x of line y
abbrev pub Near : ℕ → ℕ → ℕ → ℕ → ℕ → Type 0
Near p q x y c = (x' : ℕ) × (y' : ℕ) × (x' < p) × (y' < q) × (c ≡ y' * p + x') × (apart x x' + apart y y' ≤ 1)

-- the row of a point has exactly the columns of the points at most one step away
abbrev pub Adjacent : ℕ → ℕ → Sparsity → Type 0
Adjacent p q s = (x y c : ℕ) → x < p → y < q → (Stands s (y * p + x) c → Near p q x y c) × (Near p q x y c → Stands s (y * p + x) c)
