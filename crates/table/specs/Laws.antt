-- What codes tell: the nearest earlier row with a column, and how many distinct columns a run of rows has.
use Rattle.std.specs.Prelude.{◌≡◌, ℕ, ◌+◌, ◌<◌, ◌≤◌, true, false, count_by, nat_le}
use Rattle.std.specs.List.{between}
use Rattle.pattern.specs.Columns.{among, distinct_columns}
use Rattle.pattern.specs.Sparsity.{Lawful, Sparsity, entries_between, row_at, row_count}
use Rattle.table.specs.Codes.{code, codes}

-- no row from a up to, not including, i has column c
abbrev pub Lacked : Sparsity → ℕ → ℕ → ℕ → Type 0
Lacked s a i c = (r : ℕ) → a ≤ r → r < i → among (row_at s r) c ≡ false

-- of the rows before row i, r is the nearest that has column c
abbrev pub Nearest : Sparsity → ℕ → ℕ → ℕ → Type 0
Nearest s i c r = (r < i) × (among (row_at s r) c ≡ true) × Lacked s (r + 1) i c

-- a code is 0 exactly where no earlier row has the column, and a row plus 1 exactly where that row is the nearest
abbrev pub CodeLaw : Type 0
CodeLaw =
    (s : Sparsity) (i c : ℕ)
    → ((code s i c ≡ 0 → Lacked s 0 i c) × (Lacked s 0 i c → code s i c ≡ 0))
    × ((r : ℕ) → (code s i c ≡ r + 1 → Nearest s i c r) × (Nearest s i c r → code s i c ≡ r + 1))

-- a run of rows from a on has as many distinct columns as it has entries with a code of at most a
abbrev pub DistinctLaw : Type 0
DistinctLaw =
    (s : Sparsity) → Lawful s → (a b : ℕ) → a ≤ b → b ≤ row_count s
    → distinct_columns s a b ≡ count_by (λ x. nat_le x a) (between (entries_between s 0 a) (entries_between s 0 b) (codes s))
