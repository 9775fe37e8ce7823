use Rattle.std.proofs.Common.{◌+◌, arith}
use Rattle.table.specs.Openings.{words_of}
use Rattle.table.proofs.Told.{some_front, some_start, some_word}
use Rattle.table.proofs.opened.Opened.start.Goals as goal

pub index-requires : goal.index-requires
index-requires g c = omega (arith, some_front (words_of c.args.self.now) c.args.self.now.table)

pub overflow_cast-result : goal.overflow_cast-result
overflow_cast-result g c =
    let o = c.args.self.now in
    omega (
      arith,
      some_word (words_of o) o.table (3 + c.args.row) c.index.result.now (omega arith) c.index.ensures,
      some_start (words_of o) o.table c.args.row c.requires,
    )

pub returns : goal.returns
returns g c =
    let o = c.args.self.now in
    let value = some_word (words_of o) o.table (3 + c.args.row) c.index.result.now (omega arith) c.index.ensures in
    record { value = value; few = omega (arith, value, some_start (words_of o) o.table c.args.row c.requires) }
