use Rattle.std.proofs.Common.{◌-◌, get_or, sym, ap, ◌∙◌, arith}
use Rattle.std.proofs.lemmas.Bool.{ne_eqb}
use Rattle.levels.proofs.Deciding.{when_same}
use Rattle.levels.proofs.Standing.{level_right, right_level, whole_sum}
use Rattle.levels.proofs.checking.level_stands.Goals as goal

pub returns-then-level-saturating_sub : goal.returns-then-level-saturating_sub
returns-then-level-saturating_sub c =
    let level = c.args.level.now in
    let b = c.args.words in
    let sum = c.in-Some.ensures.0 ∙ whole_sum level b (omega arith) in
    when_same c.tail_clear.result
    (λ tail. (c.if-level-saturating_sub.true ∙ c.saturating_sub.ensures ∙ ap (λ x. c.args.n - x) sum, right_level level b (omega arith) c.in-Some.ensures.1, tail))
    (λ s. s.2) c.tail_clear.ensures

pub returns-in-None : goal.returns-in-None
returns-in-None c = λ s. c.in-None.ensures (level_right c.args.level.now c.args.words (omega arith) s.1)

pub returns-else-level-saturating_sub : goal.returns-else-level-saturating_sub
returns-else-level-saturating_sub c =
    let level = c.args.level.now in
    let sum = c.in-Some.ensures.0 ∙ whole_sum level c.args.words (omega arith) in
    rw (ne_eqb (get_or level 0 0) c.saturating_sub.result c.if-level-saturating_sub.false)
    (λ s. c.if-level-saturating_sub.false (s.0 ∙ sym (c.saturating_sub.ensures ∙ ap (λ x. c.args.n - x) sum)))
