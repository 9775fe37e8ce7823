use Rattle.std.proofs.Common.{rules, refl, ◌∙◌, arith}
use Rattle.std.proofs.lemmas.Iterator.{YieldsList-from_range, YieldsList-from_map}
use Rattle.std.proofs.lemmas.Iterator.Consumers.{sum_from_yields_List, fits_from_yields_list}
use Rattle.pattern.specs.Sparsity.{entry_count}
use Rattle.pattern.proofs.Spans.{entries_summed, entries_few}
use Rattle.pattern.proofs.Pattern.entries_between.Goals as goal

pub sum-requires-clause-fits : goal.sum-requires-clause-fits
sum-requires-clause-fits g c =
    let s = g.Self.Pattern.sparsity c.args.self.now in
    let total = entries_summed s c.args.from c.args.to c.min-end.result c.min.result (omega arith) (omega arith) in
    let few = entries_few s (g.met.Self.Pattern.lawful c.args.self.now) c.args.from c.args.to in
    fits_from_yields_list c.map.result _
    (YieldsList-from_map _ (entry_count s) (YieldsList-from_range c.min.result c.min-end.result _ c.map.ensures.source refl) c.map.ensures.closure (λ x r q k. search rules))
    (omega arith)

pub returns : goal.returns
returns g c =
    let s = g.Self.Pattern.sparsity c.args.self.now in
    c.from_none.ensures ∙ sum_from_yields_List c.map.result c.sum.result c.sum.ensures.ran
    (YieldsList-from_map _ (entry_count s) (YieldsList-from_range c.min.result c.min-end.result _ c.map.ensures.source refl) c.map.ensures.closure (λ x r q k. search rules))
    ∙ entries_summed s c.args.from c.args.to c.min-end.result c.min.result (omega arith) (omega arith)
