use Rattle.std.proofs.Common.{◌≡◌, ◌-◌, ◌<◌, length, take, sym, refl, ap, ◌∙◌, subst, ⊎_elim, arith}
use Rattle.std.proofs.lemmas.List.{length-take}
use Rattle.table.specs.Words.{IsTable, table_words}
use Rattle.table.proofs.checking.check_table.Goals as goal

pub returns-then-is_table : goal.returns-then-is_table
returns-then-is_table g c =
    let s = g.P.Pattern.sparsity c.of-plan.result.pattern.now in
    let n : length (table_words s) ≡ c.size.result - 0 = omega (arith, c.size.ensures.words) in
    subst (λ x. IsTable x c.args.words.now) (ap g.P.Pattern.sparsity c.of-plan.ensures.same)
    (ap (λ k. take k c.args.words.now) n ∙ sym c.in-Some.ensures.lookup.0.2 ∙ c.if-is_table.ensures)

pub returns-else-is_table : goal.returns-else-is_table
returns-else-is_table g c =
    let s = g.P.Pattern.sparsity c.of-plan.result.pattern.now in
    let n : c.size.result - 0 ≡ length (table_words s) = omega (arith, c.size.ensures.words) in (
      refl,
      subst (λ x. IsTable x c.args.words.now → ⊥) (ap g.P.Pattern.sparsity c.of-plan.ensures.same)
          (λ e. c.if-is_table.ensures (c.in-Some.ensures.lookup.0.2 ∙ ap (λ k. take k c.args.words.now) n ∙ e)),
    )

pub returns-in_default : goal.returns-in_default
returns-in_default g c =
    let s = g.P.Pattern.sparsity c.of-plan.result.pattern.now in
    let short = (rw c.in_default.is at c.get.ensures.lookup).0 in
    let l : length c.args.words.now < length (table_words s) =
    ⊎_elim (λ z. omega arith) (λ z. omega (arith, c.size.ensures.words)) short in (
      refl,
      subst (λ x. IsTable x c.args.words.now → ⊥) (ap g.P.Pattern.sparsity c.of-plan.ensures.same)
          (λ e. omega (arith, ap length e, length-take (length (table_words s)) c.args.words.now, l)),
    )
