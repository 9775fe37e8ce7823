use Rattle.std.proofs.Common.{◌+◌, length, ◌∙◌, arith}
use Rattle.gather.specs.Selections.{selection}
use Rattle.std.proofs.lemmas.List.Edits.{length-between}
use Rattle.levels.proofs.Rooms.{room_grown}
use Rattle.levels.proofs.span.fn.Span.part_words.each.Goals as goal

pub returns : goal.returns
returns c =
    let v = c.captures in
    let level = c.args.level.now in
    let size = length-between level (v.words + 1) (length level) (omega arith) in
    room_grown v.words level c.part_word.new.room (omega arith) (c.part_word.auto.room ∙ size ∙ omega arith) (selection v.zeros.now) (selection v.ones.now) v.i v.lo v.hi
    (omega arith) c.part_word.ensures
