-- What a step of a walk leaves as it was.
use Rattle.std.specs.Prelude.{◌≡◌, length}
use Rattle.pattern.specs.declared.Pattern.{Ghosts}
use Rattle.table.specs.declared.walk.Walk.{Walk}

module _ {P : Type 0} {g : Ghosts P} where
  -- the walk is over the same pattern, with a window of the same columns
  abbrev pub SameGround : Walk P g → Walk P g → Type 0
  SameGround was is = (is.pattern ≡ was.pattern) × (is.first ≡ was.first) × (length is.window.now ≡ length was.window.now)
