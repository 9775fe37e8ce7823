-- The words of a pattern's counting table.
use Rattle.std.specs.Prelude.{◌≡◌, ℕ, ◌+◌, ◌/◌, List, ◌∷◌, ◌++◌, map, length, take}
use Rattle.std.specs.List.{range_with_len}
use Rattle.pattern.specs.Sparsity.{Sparsity, entries_between, row_count}
use Rattle.levels.specs.Numbers.{digits, levels}
use Rattle.table.specs.Codes.{codes}

-- how many entries there are
abbrev pub total_entries : Sparsity → ℕ
total_entries s = entries_between s 0 (row_count s)

-- how many entries stand before each row, and in all
abbrev pub starts : Sparsity → List ℕ
starts s = map (λ i. entries_between s 0 i) (range_with_len 0 (row_count s + 1))

-- the rows, the columns, the entries, the row starts, and the levels of the codes, with 64 entries to a word
abbrev pub table_words : Sparsity → List ℕ
table_words s =
    row_count s ∷ s.column_count ∷ total_entries s
    ∷ (starts s ++ levels ((total_entries s + 63) / 64) (digits (row_count s)) (codes s))

-- memory holds the table of a pattern at its front; what comes after does not matter
abbrev pub IsTable : Sparsity → List ℕ → Type 0
IsTable s ws = take (length (table_words s)) ws ≡ table_words s
