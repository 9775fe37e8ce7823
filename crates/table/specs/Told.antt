-- What the words of a table tell of the pattern it was made of.
use Rattle.std.specs.Prelude.{ℕ, zero, suc, ◌+◌, ◌*◌, ◌/◌, ◌^◌, List, map, count_by, nat_le, slice_index}
use Rattle.std.specs.List.{range_with_len, between}
use Rattle.levels.specs.Numbers.{digits}
use Rattle.levels.specs.Planes.{bits_from}
use Rattle.levels.specs.Traces.{onward}
use Rattle.pattern.specs.Sparsity.{Lawful, Sparsity}
use Rattle.table.specs.Words.{IsTable}

-- memory has the table of some pattern at its front
abbrev pub SomeTable : List ℕ → Type 0
SomeTable ws = ∥ ((s : Sparsity) × (Lawful s × IsTable s ws)) ∥₁

-- how many rows there are
abbrev pub told_rows : List ℕ → ℕ
told_rows ws = slice_index ws 0

-- how many entries come before row i
abbrev pub told_start : List ℕ → ℕ → ℕ
told_start ws i = slice_index ws (3 + i)

-- the number that is read down t levels from position q, the highest bit first
unfoldable pub number_down : ℕ → ℕ → List ℕ → ℕ → ℕ → ℕ
number_down b zero ws at q = 0
number_down b (suc t) ws at q = bits_from ws (at + 1) q * 2 ^ t + number_down b t ws (at + (2 * b + 2)) (onward ws at q)

-- the codes of the entries
abbrev pub told_codes : List ℕ → List ℕ
told_codes ws = map (number_down ((slice_index ws 2 + 63) / 64) (digits (told_rows ws)) ws (4 + told_rows ws)) (range_with_len 0 (slice_index ws 2))

-- how many distinct columns the rows from a up to, not including, b have: their entries with a code of at most a
abbrev pub told_distinct : List ℕ → ℕ → ℕ → ℕ
told_distinct ws a b = count_by (λ x. nat_le x a) (between (told_start ws a) (told_start ws b) (told_codes ws))
