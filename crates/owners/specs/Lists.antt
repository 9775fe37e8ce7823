-- The bytes of owners, column by column.
use Rattle.std.specs.Prelude.{ℕ, List, vec_items}
use Rattle.owners.specs.declared.owners.Owners.{Owners}

abbrev pub list_of : Owners → List ℕ
list_of o = vec_items o.bytes
