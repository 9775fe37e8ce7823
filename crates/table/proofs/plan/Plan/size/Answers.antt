use Rattle.std.proofs.Common.{◌+◌, ◌*◌, sym, ◌∙◌, ap₂, arith}
use Rattle.table.proofs.Wholes.{words_length}
use Rattle.table.proofs.plan.Plan.size.Goals as goal

pub returns : goal.returns
returns g c =
    let plan = c.args.self.now in
    let l = plan.layout in
    record {
      words = c.end.ensures.value ∙ sym (words_length (g.P.Pattern.sparsity plan.pattern.now) l plan.laid);
      value = c.end.ensures.long ∙ ap₂ (λ x y. x + l.bits * (2 * y + 2)) (plan.laid.starting ∙ omega arith) plan.laid.worded;
    }
