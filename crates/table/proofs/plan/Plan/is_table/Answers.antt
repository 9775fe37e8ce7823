use Rattle.std.proofs.Common.{◌≡◌, MatchBool, sym, ◌∙◌, subst, arith}
use Rattle.levels.proofs.Deciding.{when_same}
use Rattle.table.specs.Checks.{AllFound, Standing}
use Rattle.table.specs.Heads.{Sized, Started}
use Rattle.table.specs.Words.{table_words}
use Rattle.table.proofs.Found.{found_leveled, table_found}
use Rattle.table.proofs.Wholes.{heads_fit, parts_table, table_reaches, table_sized, table_started, words_length}
use Rattle.table.proofs.plan.Plan.is_table.Goals as goal

pub front_matches-requires : goal.front_matches-requires
front_matches-requires g c =
    let plan = c.args.self.now in
    omega (arith, heads_fit (g.P.Pattern.sparsity plan.pattern.now) plan.layout plan.laid, c.requires)

pub returns-then-front_matches : goal.returns-then-front_matches
returns-then-front_matches g c =
    let s = g.P.Pattern.sparsity c.args.self.now.pattern.now in
    let l = c.args.self.now.layout in
    let laid = c.args.self.now.laid in
    let ws = c.args.words.now in
    when_same {P = Standing l ws × AllFound s l ws} {Q = ws ≡ table_words s} c.levels_match.result
    (λ f. parts_table s l laid ws (c.requires ∙ words_length s l laid) c.if-front_matches.ensures.0 c.if-front_matches.ensures.1
    (found_leveled s l laid ws c.requires (λ i. omega (arith, c.type_inv.words i)) f.0.1 f.1))
    (λ e. let t = table_found s l laid ws c.requires e in ((table_reaches s l laid ws c.requires, t.0), t.1))
    c.levels_match.ensures

pub returns-else-front_matches : goal.returns-else-front_matches
returns-else-front_matches g c =
    let s = g.P.Pattern.sparsity c.args.self.now.pattern.now in
    let l = c.args.self.now.layout in
    let laid = c.args.self.now.laid in
    subst (λ r. MatchBool r (c.args.words.now ≡ table_words s) (c.args.words.now ≡ table_words s → ⊥)) (sym c.if-front_matches.false)
    (λ e. c.if-front_matches.ensures (subst (λ x. Sized s x × Started s x) (sym e) (table_sized s l laid, table_started s l laid)))
