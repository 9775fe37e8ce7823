use Rattle.std.proofs.Common.{◌-◌, ap, ◌∙◌, ap₂}
use Rattle.table.specs.Openings.{words_of}
use Rattle.table.specs.Told.{told_start}
use Rattle.table.proofs.Told.{entries_value}
use Rattle.table.proofs.opened.Opened.entries_between.Goals as goal

pub returns-clause-value : goal.returns-clause-value
returns-clause-value g c =
    let W = words_of c.args.self.now in
    λ s law is.
    c.saturating_sub.ensures
    ∙ ap₂ (λ x y. x - y) (c.start.ensures.value ∙ ap (told_start W) c.clip-rows.ensures.1) (c.start-2.ensures.value ∙ ap (told_start W) c.clip-rows.ensures.0)
    ∙ entries_value s law W is c.args.from c.args.to
