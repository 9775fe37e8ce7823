-- How the codes in a table are checked: each is found on its way down the levels.
use Rattle.std.specs.Prelude.{◌≡◌, ℕ, ◌+◌, ◌*◌, ◌<◌, true, List, IfSome, None, slice_index, slice_index_or}
use Rattle.levels.specs.Layouts.{Reaches}
use Rattle.levels.specs.Traces.{AllStand, Traced}
use Rattle.levels.specs.declared.layout.Layout.{Layout}
use Rattle.pattern.specs.Sparsity.{Sparsity}
use Rattle.table.specs.Codes.{codes}
use Rattle.table.specs.Walks.{column_of, windowed}
use Rattle.table.specs.Words.{total_entries}
use Rattle.table.specs.declared.batch.Batch.{Batch}

-- the memory reaches to the end of the levels, and each of them agrees with itself
abbrev pub Standing : Layout → List ℕ → Type 0
Standing l ws = Reaches l ws × AllStand l.words l.bits l.count ws l.start

-- a number is found on its way down from place q
abbrev pub FoundAt : Layout → List ℕ → ℕ → ℕ → Type 0
FoundAt l ws q x = Traced l.words l.bits ws l.start q x

-- so are the codes of a batch, from place 64 * word on
abbrev pub BatchFound : Layout → List ℕ → ℕ → Batch → Type 0
BatchFound l ws word b = (k : ℕ) → k < 64 → IfSome (slice_index_or b.found k None) (FoundAt l ws (64 * word + k))

-- so is the code of each entry whose column is one of the w from `first` on
abbrev pub WindowFound : Sparsity → ℕ → ℕ → Layout → List ℕ → Type 0
WindowFound s first w l ws =
    (q : ℕ) → q < total_entries s → windowed first w (column_of s q) ≡ true → FoundAt l ws q (slice_index (codes s) q)

-- so is the code of each entry
abbrev pub AllFound : Sparsity → Layout → List ℕ → Type 0
AllFound s l ws = (q : ℕ) → q < total_entries s → FoundAt l ws q (slice_index (codes s) q)
