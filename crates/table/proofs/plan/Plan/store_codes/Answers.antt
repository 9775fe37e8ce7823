use Rattle.std.proofs.Common.{◌+◌, ◌%◌, ◌^◌, ap, ◌∙◌, arith}
use Rattle.table.proofs.Stored.{stored_end}
use Rattle.table.proofs.plan.Plan.store_codes.Goals as goal

pub returns-clause-codes : goal.returns-clause-codes
returns-clause-codes g c =
    let plan = c.args.self.now in
    let s = g.P.Pattern.sparsity plan.pattern.now in
    λ q h. c.loop-first.invariant.0 q h
    ∙ ap (λ x. x % 2 ^ plan.layout.bits) (stored_end s 262144 (g.met.P.Pattern.lawful plan.pattern.now) c.loop-first.first q (omega arith))

pub returns-2-clause-codes : goal.returns-2-clause-codes
returns-2-clause-codes g c =
    let plan = c.args.self.now in
    let s = g.P.Pattern.sparsity plan.pattern.now in
    λ q h. c.store_window.ensures.after q h
    ∙ ap (λ x. x % 2 ^ plan.layout.bits) (stored_end s 262144 (g.met.P.Pattern.lawful plan.pattern.now) (c.loop-first.first + 262144) q (omega arith))
