use Rattle.std.proofs.Common.{arith}
use Rattle.table.specs.Openings.{words_of}
use Rattle.table.proofs.Told.{some_entries, some_word}
use Rattle.table.proofs.opened.Opened.entry_count.Goals as goal

pub overflow_cast-result : goal.overflow_cast-result
overflow_cast-result g c =
    let o = c.args.self.now in
    omega (arith, some_word (words_of o) o.table 2 c.index.result.now (omega arith) c.index.ensures, some_entries (words_of o) o.table)

pub returns : goal.returns
returns g c =
    let o = c.args.self.now in
    let value = some_word (words_of o) o.table 2 c.index.result.now (omega arith) c.index.ensures in
    record { value = value; few = omega (arith, value, some_entries (words_of o) o.table) }
