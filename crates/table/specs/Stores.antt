-- The places of a table, window after window: which codes stand there.
use Rattle.std.specs.Prelude.{◌≡◌, ℕ, ◌+◌, ◌*◌, ◌/◌, ◌%◌, ◌^◌, ◌<◌, Bool, cond, ◌&&◌, ◌||◌, List, nat_lt, slice_index}
use Rattle.levels.specs.Numbers.{digits}
use Rattle.levels.specs.Spans.{value_at}
use Rattle.levels.specs.declared.layout.Layout.{Layout}
use Rattle.pattern.specs.Sparsity.{Sparsity, row_count}
use Rattle.table.specs.Codes.{codes}
use Rattle.table.specs.Walks.{column_of}
use Rattle.table.specs.Words.{total_entries}

-- the layout of the codes of a pattern, after the sizes and the row starts
pub record LaidOut (s : Sparsity) (l : Layout) : Type 0 where
  pub starting : l.start ≡ 4 + row_count s
  pub counted : l.count ≡ total_entries s
  pub worded : l.words ≡ (total_entries s + 63) / 64
  pub digited : l.bits ≡ digits (row_count s)

-- entry q is done: its column is before the window of w columns, or in it and q is below `to`
abbrev pub done : Sparsity → ℕ → ℕ → ℕ → ℕ → Bool
done s first w to q = nat_lt (column_of s q) first || (nat_lt (column_of s q) (first + w) && nat_lt q to)

-- the code of an entry that is done, and 0 for the others
abbrev pub done_code : Sparsity → ℕ → ℕ → ℕ → ℕ → ℕ
done_code s first w to q = cond (done s first w to q) (slice_index (codes s) q) 0

-- the number at place q of the planes
abbrev pub placed : Layout → List ℕ → ℕ → ℕ
placed l ws q = value_at l.words l.bits ws l.start q

-- the places have the codes that are done
abbrev pub Stored : Sparsity → ℕ → ℕ → ℕ → Layout → List ℕ → Type 0
Stored s first w to l ws = (q : ℕ) → q < 64 * l.words → placed l ws q ≡ done_code s first w to q % 2 ^ l.bits
