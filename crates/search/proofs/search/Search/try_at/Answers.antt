use Rattle.std.proofs.Common.{Bool, true, false, ltb, leb, Ok, Err, Result, sym, refl, ap, ◌∙◌, subst}
use Rattle.std.proofs.lemmas.Bool.{cond-true, cond-false, ltb-true, ltb-false, leb-true, leb-false, both_ways}
use Rattle.refusal.specs.declared.Refusal.{Refusal}
use Rattle.refusal.specs.declared.Refusal.TheVariants as refusal
use Rattle.search.specs.declared.call.Call.TheVariants.{Try}
use Rattle.search.specs.declared.report.Report.{Report}
use Rattle.search.specs.Trails.{Trail}
use Rattle.search.specs.Play.{tried}
use Rattle.search.specs.Reports.{report_of}
use Rattle.search.specs.Of.{view_of}
use Rattle.search.proofs.Along.{Kept, follows, try_taken, try_asked}
use Rattle.search.proofs.Tries.{told_of, still, too-high, too-low, known, spent, makes}
use Rattle.search.proofs.search.Search.try_at.Goals as goal

-- an answer of yes or no with a report
abbrev answered : Bool → Report → Result (Bool × Report) Refusal
answered b r = Ok (b, r)

pub returns-then-too_high : goal.returns-then-too_high
returns-then-too_high g c =
    let s = c.args.self.now in
    let at = c.args.c in
    let law = g.met.C.Cost.lawful s.cost in
    let answer = sym (cond-true (ltb s.ceiling at) _ _ (sym c.too_high.ensures ∙ c.if-too_high.true)) in
    record {
      follows = still g.C.Cost.price g.C.Cost.put s law at (too-high s.ceiling at (view_of s) (ltb-true s.ceiling at (sym c.too_high.ensures ∙ c.if-too_high.true)));
      answer = answer;
      after = refl;
      unchanged = λ _. refl;
      told = λ calls ran. told_of g.C.Cost.price g.C.Cost.put s law at (Err refusal.Ceiling) answer calls ran;
    }

pub returns-then-too_low : goal.returns-then-too_low
returns-then-too_low g c =
    let s = c.args.self.now in
    let at = c.args.c in
    let law = g.met.C.Cost.lawful s.cost in
    let answer = ap (answered false) c.tell.ensures.exact ∙ sym (cond-false (ltb s.ceiling at) _ _ (sym c.too_high.ensures ∙ c.if-too_high.false)
    ∙ cond-true (ltb at s.floor) _ _ (sym c.too_low.ensures ∙ c.if-too_low.true)) in
    record {
      follows = still g.C.Cost.price g.C.Cost.put s law at (too-low s.ceiling at (view_of s) (ltb-true at s.floor (sym c.too_low.ensures ∙ c.if-too_low.true)));
      answer = answer;
      after = (c.tell.ensures.exact, c.tell.ensures.law);
      unchanged = λ _. refl;
      told = λ calls ran. told_of g.C.Cost.price g.C.Cost.put s law at (answered false c.tell.result) answer calls ran;
    }

pub returns-then-reached : goal.returns-then-reached
returns-then-reached g c =
    let s = c.args.self.now in
    let at = c.args.c in
    let law = g.met.C.Cost.lawful s.cost in
    let answer = ap (answered true) c.tell-then-reached.ensures.exact ∙ sym (cond-false (ltb s.ceiling at) _ _ (sym c.too_high.ensures ∙ c.if-too_high.false)
    ∙ cond-false (ltb at s.floor) _ _ (sym c.too_low.ensures ∙ c.if-too_low.false)
    ∙ cond-true (leb s.figure at) _ _ (sym c.reached.ensures ∙ c.if-reached.true)) in
    record {
      follows = still g.C.Cost.price g.C.Cost.put s law at (known s.ceiling at (view_of s) (leb-true s.figure at (sym c.reached.ensures ∙ c.if-reached.true)));
      answer = answer;
      after = (c.tell-then-reached.ensures.exact, c.tell-then-reached.ensures.law);
      unchanged = λ _. refl;
      told = λ calls ran. told_of g.C.Cost.price g.C.Cost.put s law at (answered true c.tell-then-reached.result) answer calls ran;
    }

pub returns-then-not-tries_left : goal.returns-then-not-tries_left
returns-then-not-tries_left g c =
    let s = c.args.self.now in
    let at = c.args.c in
    let law = g.met.C.Cost.lawful s.cost in
    let answer = sym (cond-false (ltb s.ceiling at) _ _ (sym c.too_high.ensures ∙ c.if-too_high.false)
    ∙ cond-false (ltb at s.floor) _ _ (sym c.too_low.ensures ∙ c.if-too_low.false)
    ∙ cond-false (leb s.figure at) _ _ (sym c.reached.ensures ∙ c.if-reached.false)
    ∙ cond-false (ltb s.try_trials 65535) _ _ (sym c.tries_left.ensures ∙ c.if-not-tries_left.true)) in
    record {
      follows = still g.C.Cost.price g.C.Cost.put s law at (spent s.ceiling at (view_of s) (ltb-false s.try_trials 65535 (sym c.tries_left.ensures ∙ c.if-not-tries_left.true)));
      answer = answer;
      after = refl;
      unchanged = λ _. refl;
      told = λ calls ran. told_of g.C.Cost.price g.C.Cost.put s law at (Err refusal.Count) answer calls ran;
    }

pub one_trial-succeeded-requires : goal.one_trial-succeeded-requires
one_trial-succeeded-requires g c =
    let s = c.args.self.now in
    let at = c.args.c in
    record { above = ltb-false at s.floor (sym c.too_low.ensures ∙ c.if-too_low.false); under = leb-false s.figure at (sym c.reached.ensures ∙ c.if-reached.false); fair = ltb-true s.try_trials 65535 (sym c.tries_left.ensures ∙ c.if-not-tries_left.false) }

pub returns : goal.returns
returns g c =
    let s = c.args.self.now in
    let t = c.one_trial-succeeded.new.self in
    let at = c.args.c in
    let p = g.C.Cost.price s.cost in
    let law = g.met.C.Cost.lawful s.cost in
    let yes = makes s.ceiling at (view_of s) (ltb-false s.ceiling at (sym c.too_high.ensures ∙ c.if-too_high.false)) (ltb-false at s.floor (sym c.too_low.ensures ∙ c.if-too_low.false)) (leb-false s.figure at (sym c.reached.ensures ∙ c.if-reached.false)) (ltb-true s.try_trials 65535 (sym c.tries_left.ensures ∙ c.if-not-tries_left.false)) in
    let done = c.one_trial-succeeded.ensures in
    let kept : Kept g.C.Cost.price g.C.Cost.put s t = record { price_same = done.kept.0; blocks_same = done.kept.1; ceiling_same = done.kept.2 } in
    let answer =
    ap (answered c.one_trial-succeeded.result) (c.tell-2.ensures.exact ∙ ap report_of done.exact)
    ∙ ap (λ b. answered b (report_of (tried p s.blocks at false (view_of s)))) done.answer
    ∙ sym (cond-false (ltb s.ceiling at) _ _ (sym c.too_high.ensures ∙ c.if-too_high.false)
    ∙ cond-false (ltb at s.floor) _ _ (sym c.too_low.ensures ∙ c.if-too_low.false)
    ∙ cond-false (leb s.figure at) _ _ (sym c.reached.ensures ∙ c.if-reached.false)
    ∙ cond-true (ltb s.try_trials 65535) _ _ (sym c.tries_left.ensures ∙ c.if-not-tries_left.false)) in
    record {
      follows = follows g.C.Cost.price g.C.Cost.put (Try at) s t kept (done.exact ∙ try_taken p s.blocks s.ceiling (view_of s) at yes) (subst (λ qs. Trail g.C.Cost.put s.cost qs t.cost) (try_asked p s.blocks s.ceiling (view_of s) at yes) done.puts);
      answer = answer;
      after = (c.tell-2.ensures.exact, c.tell-2.ensures.law);
      unchanged = λ no. absurd (both_ways _ no yes);
      told = λ calls ran. told_of g.C.Cost.price g.C.Cost.put s law at (answered c.one_trial-succeeded.result c.tell-2.result) answer calls ran;
    }
