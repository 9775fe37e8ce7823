-- The selection that masks are for.
use Rattle.std.specs.Prelude.{ℕ}
use Rattle.gather.specs.declared.masks.Masks.{Masks}

abbrev pub selection : Masks → ℕ
selection m = m.selected
