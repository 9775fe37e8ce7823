-- A checked pattern keeps the law of patterns.
use Rattle.std.specs.Prelude.{vec_items}
use Rattle.pattern.specs.Sparsity.{Lawful}
use Rattle.stored.specs.Judged.{sparsity_of}
use Rattle.stored.specs.declared.lists.Stored.{Stored}
use Rattle.stored.specs.Rows.{lawful}

pub checked_lawful : (s : Stored) → Lawful (sparsity_of s)
checked_lawful s = lawful s.lists.width (vec_items s.lists.starts) (vec_items s.lists.columns) s.framed s.climbing s.sized s.ordered
