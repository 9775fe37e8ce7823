use Rattle.std.proofs.Common.{refl}
use Rattle.table.specs.Openings.{words_of}
use Rattle.pricing.specs.Telling.{told_same}
use Rattle.pricing.proofs.counted.Priced+Opened+P.new.Goals as goal

pub returns : goal.returns
returns g c =
    let w = c.args.weights in
    let e = c.in_ok-counted.ensures in
    rw (e.1, e.2, e.3, e.4) (e.0, told_same (words_of c.args.opened) w.row w.entry w.column, refl, refl)
