use Rattle.std.proofs.Common.{sym, ap, ◌∙◌, subst}
use Rattle.std.proofs.lemmas.List.{drop_all}
use Rattle.search.specs.Trails.{Trail}
use Rattle.search.specs.Runs.{run_asks}
use Rattle.search.specs.Play.{start}
use Rattle.search.proofs.Under.{Under, under_turn, played_is, price_over, asks_over}
use Rattle.search.proofs.run.run_through.Goals as goal

pub loop-call-preserved : goal.loop-call-preserved
loop-call-preserved g c = under_turn g.C.Cost.price g.C.Cost.put c.begin-search.result c.args.planned.calls.now c.loop-call.call-index _ c.loop-call.search c.play_one.new.search c.loop-call.last c.play_one.result c.loop-call-test.true c.loop-call.invariant c.play_one.ensures.follows c.play_one.ensures.answer

pub returns : goal.returns
returns g c =
    let s = c.begin-search.result in
    let t = c.loop-call.search in
    let calls = c.args.planned.calls.now in
    let none = drop_all c.loop-call.call-index calls c.loop-call-test.false in
    let over = subst (λ xs. Under g.C.Cost.price g.C.Cost.put s calls xs t c.loop-call.last) none c.loop-call.invariant in
    let still = c.standing_cut-cut.ensures.unchanged in
    let back = c.close.ensures ∙ ap (λ x. x.cost) still in
    record {
      exact = played_is g.C.Cost.price g.C.Cost.put s calls t c.loop-call.last over c.args.planned.cost c.args.blocks c.args.planned.ceiling c.begin-search.ensures c.tell-report.result c.standing_cut-cut.result c.tell-report.ensures.exact c.standing_cut-cut.ensures.cut;
      same = ap g.C.Cost.price back ∙ price_over g.C.Cost.price g.C.Cost.put s calls t c.loop-call.last over c.args.planned.cost c.args.blocks c.args.planned.ceiling c.begin-search.ensures;
      puts = subst (λ x. Trail g.C.Cost.put c.args.planned.cost (run_asks (g.C.Cost.price c.args.planned.cost) c.args.blocks c.args.planned.ceiling calls (start c.args.planned.ceiling)) x) (sym back) (asks_over g.C.Cost.price g.C.Cost.put s calls t c.loop-call.last over c.args.planned.cost c.args.blocks c.args.planned.ceiling c.begin-search.ensures);
    }
