use Rattle.std.proofs.Common.{◌+◌, arith}
use Rattle.table.proofs.Found.{found_all, found_next}
use Rattle.table.proofs.plan.Plan.codes_found.Goals as goal

pub returns : goal.returns
returns g c =
    found_all (g.P.Pattern.sparsity c.args.self.now.pattern.now) c.loop-first.first c.args.self.now.layout c.args.words.now
    (g.met.P.Pattern.lawful c.args.self.now.pattern.now) (omega arith) c.loop-first.invariant

pub returns-else-not-window_found : goal.returns-else-not-window_found
returns-else-not-window_found g c =
    let s = g.P.Pattern.sparsity c.args.self.now.pattern.now in
    let l = c.args.self.now.layout in
    let ws = c.args.words.now in
    found_all s (c.loop-first.first + 262144) l ws (g.met.P.Pattern.lawful c.args.self.now.pattern.now) (omega arith)
    (found_next s c.loop-first.first 262144 l ws c.if-not-window_found.ensures c.loop-first.invariant)
