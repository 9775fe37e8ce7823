use Rattle.std.proofs.Common.{◌≡◌, ◌⊎◌, inl, inr, ◌+◌, ◌-◌, ◌<◌, false, true, ltb, Ok, sym, refl, ap, ◌∙◌, subst, arith}
use Rattle.std.proofs.lemmas.Bool.{cond-true, cond-false, ltb-true}
use Rattle.search.specs.declared.call.Call.TheVariants.{Advance}
use Rattle.search.specs.declared.report.Report.{Report}
use Rattle.search.specs.Trails.{Trail}
use Rattle.search.specs.Play.{advanced, advance_asks, advance_ok, trial_at, tried, halfway}
use Rattle.search.specs.Reports.{report_of}
use Rattle.search.specs.Of.{view_of}
use Rattle.search.proofs.Trailing.{trail_none, trail_more}
use Rattle.search.proofs.Along.{Kept, kept_more, follows, follows_same, advance_declined, advance_unasked, advance_taken, advance_asked, advanced_turn, asks_turn, advanced_stop, splits}
use Rattle.search.proofs.search.Search.advance.Goals.{else-loop-test, then-loop-test+then-not-is_open}
use Rattle.search.proofs.search.Search.advance.Goals as goal

pub returns-then-not-advances_by : goal.returns-then-not-advances_by
returns-then-not-advances_by g c =
    let s = c.args.self.now in
    let p = g.C.Cost.price s.cost in
    let bad : advance_ok c.args.n ≡ false = sym c.advances_by.ensures ∙ c.if-not-advances_by.true in
    record {
      follows = follows_same g.C.Cost.price g.C.Cost.put (Advance c.args.n) s (advance_declined p s.blocks s.ceiling (view_of s) c.args.n bad) (advance_unasked p s.blocks s.ceiling (view_of s) c.args.n bad);
      answer = sym (cond-false (advance_ok c.args.n) _ _ bad);
      after = refl;
      splits = splits p s.blocks (view_of s);
    }

pub loop-preserved : goal.loop-preserved
loop-preserved g c =
    let s = c.args.self.now in
    let t = c.loop.self in
    let u = c.one_trial.new.self in
    let left = c.args.n - c.loop.counter in
    let p = g.C.Cost.price s.cost in
    let K = s.blocks in
    let st = view_of t in
    let kept = c.loop.invariant.0 in
    let done = c.one_trial.ensures in
    let some : 0 < left = omega (arith, c.loop-test.true) in
    let o = ltb-true t.floor t.figure (sym c.is_open.ensures ∙ c.if-not-is_open.false) in
    let next : left - 1 ≡ c.args.n - (c.loop.counter + 1) = omega arith in
    let half = c.half-c.ensures in
    let one : view_of u ≡ tried p K (halfway st) true st = done.exact ∙ ap (λ q. tried q t.blocks c.half-c.result true st) kept.price_same ∙ ap (λ k. tried p k c.half-c.result true st) kept.blocks_same ∙ ap (λ x. tried p K x true st) half in
    let asks : Trail g.C.Cost.put t.cost (trial_at p K (halfway st)).questions u.cost =
    subst (λ x. Trail g.C.Cost.put t.cost (trial_at p K x).questions u.cost) half
    (subst (λ k. Trail g.C.Cost.put t.cost (trial_at p k c.half-c.result).questions u.cost) kept.blocks_same
    (subst (λ q. Trail g.C.Cost.put t.cost (trial_at q t.blocks c.half-c.result).questions u.cost) kept.price_same done.puts)) in
    let on : Kept g.C.Cost.price g.C.Cost.put t u = record { price_same = done.kept.0; blocks_same = done.kept.1; ceiling_same = done.kept.2 } in (
      kept_more g.C.Cost.price g.C.Cost.put s t u kept on,
      sym (ap (λ i. advanced p K i (view_of u)) next) ∙ ap (advanced p K (left - 1)) one ∙ advanced_turn p K left st some o ∙ c.loop.invariant.1,
      λ z rest. c.loop.invariant.2 z (subst (λ qs. Trail g.C.Cost.put t.cost qs z) (asks_turn p K left st some o) (trail_more g.C.Cost.put t.cost u.cost z (trial_at p K (halfway st)).questions (advance_asks p K (left - 1) (tried p K (halfway st) true st)) asks (subst (λ v. Trail g.C.Cost.put u.cost (advance_asks p K (left - 1) v) z) one (subst (λ i. Trail g.C.Cost.put u.cost (advance_asks p K i (view_of u)) z) (sym next) rest)))),
    )

pub returns : goal.returns
returns g c =
    let s = c.args.self.now in
    let t = c.loop.self in
    let n = c.args.n in
    let p = g.C.Cost.price s.cost in
    let K = s.blocks in
    let good : advance_ok n ≡ true = sym c.advances_by.ensures ∙ c.if-not-advances_by.false in
    let left = c.args.n - c.loop.counter in
    let end : (left ≡ 0) ⊎ (ltb t.floor t.figure ≡ false) = elim c.loop-test.branch [ else-loop-test w ↦ inl (omega (arith, w.loop-test.false)) | then-loop-test+then-not-is_open w ↦ inr (sym w.is_open.ensures ∙ w.if-not-is_open.true) ] in
    let stop = advanced_stop p K left (view_of t) end in
    let whole : view_of t ≡ advanced p K n (view_of s) = sym stop.0 ∙ c.loop.invariant.1 in
    let asks = c.loop.invariant.2 t.cost (subst (λ qs. Trail g.C.Cost.put t.cost qs t.cost) (sym stop.1) (trail_none g.C.Cost.put t.cost)) in
    record {
      follows = follows g.C.Cost.price g.C.Cost.put (Advance n) s t c.loop.invariant.0 (whole ∙ advance_taken p K s.ceiling (view_of s) n good) (subst (λ qs. Trail g.C.Cost.put s.cost qs t.cost) (advance_asked p K s.ceiling (view_of s) n good) asks);
      answer = ap (λ (r : Report). Ok r) (c.tell.ensures.exact ∙ ap report_of whole) ∙ sym (cond-true (advance_ok n) _ _ good);
      after = (c.tell.ensures.exact, c.tell.ensures.law);
      splits = splits p K (view_of s);
    }
