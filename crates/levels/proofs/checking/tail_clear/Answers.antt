use Rattle.std.proofs.Common.{◌+◌, ◌/◌, ◌^◌, ◌<◌, get_or, arith}
use Rattle.levels.proofs.Deciding.{when_same}
use Rattle.levels.proofs.Tails.{tail_zero, zero_tail}
use Rattle.levels.proofs.checking.tail_clear.Goals as goal

pub returns-else-n-eq0 : goal.returns-else-n-eq0
returns-else-n-eq0 c =
    let ws = c.args.level.now in
    let b = c.args.words in
    let n = c.args.n in
    let small : get_or ws (1 + n / 64) 0 < 2 ^ 64 = omega (arith, c.type_inv.level (1 + n / 64)) in
    when_same c.clear_from.result (tail_zero ws 1 b n (omega arith) (omega arith) c.if-n-eq0.false) (zero_tail ws 1 b n (omega arith) (omega arith) c.if-n-eq0.false small)
    c.clear_from.ensures
