use Rattle.std.proofs.Common.{◌+◌, true, false, subst}
use Rattle.std.specs.Fn.{FnReturnsAt}
use Rattle.std.specs.List.{between}
use Rattle.std.proofs.lemmas.Fn.{says_at}
use Rattle.levels.specs.Rooms.{OneOf, level_words}
use Rattle.levels.proofs.Rooms.{each_none, each_next}
use Rattle.levels.proofs.span.Span.all.Goals as goal

pub loop-k-init : goal.loop-k-init
loop-k-init g c = each_none _ _ _

pub loop-k-preserved : goal.loop-k-preserved
loop-k-preserved g c =
    let b = c.args.self.now.words in
    let ws = c.args.memory.now in
    let p = c.level-at.result in
    let told : FnReturnsAt g.F.Fn c.args.test (between p (p + c.width-width.result) ws) true = says_at g.F.Fn c.test.ensures c.if-not-test.false in
    each_next b c.loop-k.k (λ A. FnReturnsAt g.F.Fn c.args.test (level_words b ws A) true) c.args.self.now.at c.loop-k.invariant
    (subst (λ A. FnReturnsAt g.F.Fn c.args.test (level_words b ws A) true) c.level-at.ensures.value
    (subst (λ w. FnReturnsAt g.F.Fn c.args.test (between p (p + w) ws) true) c.width-width.ensures told))

pub returns-then-not-test : goal.returns-then-not-test
unfolding OneOf
returns-then-not-test g c =
    let b = c.args.self.now.words in
    let ws = c.args.memory.now in
    let p = c.level-at.result in
    let told : FnReturnsAt g.F.Fn c.args.test (between p (p + c.width-width.result) ws) false = says_at g.F.Fn c.test.ensures c.if-not-test.true in (
      c.loop-k.k,
      c.loop-k-test.true,
      subst (λ A. FnReturnsAt g.F.Fn c.args.test (level_words b ws A) false) c.level-at.ensures.value
          (subst (λ w. FnReturnsAt g.F.Fn c.args.test (between p (p + w) ws) false) c.width-width.ensures told),
    )
