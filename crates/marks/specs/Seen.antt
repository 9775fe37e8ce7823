-- What marks tell.
use Rattle.std.specs.Prelude.{◌≡◌, ℕ, Bool, vec_items, vec_len, ◌==◌, slice_index}
use Rattle.marks.specs.declared.memory.Marks.{Marks}

-- for how many columns there is a mark
abbrev pub covered : Marks → ℕ
covered m = vec_len m.stamps

-- whether the present count has seen column c
abbrev pub seen : Marks → ℕ → Bool
seen m c = slice_index (vec_items m.stamps) c == m.count

-- marks that hold the same
abbrev pub SameMarks : Marks → Marks → Type 0
SameMarks m m' = (vec_items m'.stamps ≡ vec_items m.stamps) × (m'.count ≡ m.count)
