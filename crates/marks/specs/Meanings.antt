-- What a pattern with its marks means, given what the pattern means: its rows, and as many columns as it was made for.
use Rattle.std.specs.Prelude.{◌≡◌}
use Rattle.pattern.specs.Sparsity.{Sparsity, row_count}
use Rattle.marks.specs.declared.memory.Marked.{Marked}

abbrev pub marked_sparsity : {P : Type 0} → (P → Sparsity) → Marked P → Sparsity
marked_sparsity sparsity m = record { rows = (sparsity m.pattern).rows; column_count = m.width }

-- there are as many columns as rows
abbrev pub Square : Sparsity → Type 0
Square s = row_count s ≡ s.column_count

-- a pattern with its marks, before and after: it means the same
abbrev pub SamePattern : {P : Type 0} → Marked P → Marked P → Type 0
SamePattern before after = (after.pattern ≡ before.pattern) × (after.width ≡ before.width)
