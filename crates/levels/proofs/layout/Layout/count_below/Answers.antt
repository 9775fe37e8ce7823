use Rattle.std.proofs.Common.{◌≡◌, ◌+◌, ◌-◌, ◌^◌, length, ◌∙◌, arith}
use Rattle.std.specs.List.{between}
use Rattle.std.proofs.lemmas.List.Edits.{get_or-between, length-between}
use Rattle.levels.specs.Numbers.{AllBelow}
use Rattle.levels.proofs.Counts.{count_length, count_whole}
use Rattle.levels.proofs.layout.Layout.count_below.Goals as goal

pub returns : goal.returns
returns c cs reach has small below l h =
    let layout = c.args.self.now in
    let from = c.args.from in
    let to = c.args.to in
    let part = between from to cs in
    let n = has.0 in
    let len : length part ≡ to - from = length-between cs from to (omega arith) in
    let few = count_length layout.bits c.args.bound part in
    let each : AllBelow (2 ^ layout.bits) part = λ q m.
    let e = get_or-between cs from to q 0 (omega arith) in
    let s = small (from + q) (omega arith) in
    omega arith in
    let q = c.span.ensures in
    rw (q.at, q.words, q.bits) at c.found_below.ensures cs (omega arith) has.1 l (omega arith) (omega arith) ∙ count_whole layout.bits c.args.bound part below each
