-- What an opened table holds.
use Rattle.std.specs.Prelude.{ℕ, List, vec_items}
use Rattle.table.specs.declared.opened.Opened.{Opened}

abbrev pub pattern_of : {P : Type 0} → Opened P → P
pattern_of o = o.pattern

abbrev pub words_of : {P : Type 0} → Opened P → List ℕ
words_of o = vec_items o.words
