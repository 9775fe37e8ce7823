use Rattle.std.proofs.Common.{◌≡◌, ℕ, ◌+◌, ◌^◌, ◌<◌, max, List, take, set, Ok, Err, sym, refl, ap, ◌∙◌, subst, arith, length-set}
use Rattle.std.proofs.lemmas.List.{take_more_set}
use Rattle.std.proofs.lemmas.Bool.{leb-true, leb-false}
use Rattle.search.specs.Trails.{Trail}
use Rattle.search.specs.Halving.{halved, halving_asks}
use Rattle.search.specs.Trial.{Trial, trial_to}
use Rattle.search.proofs.Trailing.{trail_none, trail_more}
use Rattle.search.proofs.Trials.{Walking, trial_first, walking_start, walking_few, walking_asks, walking_next, failed_asks, failed_cut, failed_is, reached_is, short_is, front_is}
use Rattle.search.proofs.Greedy.{trial_law}
use Rattle.search.proofs.trial.trial.Goals as goal

pub loop-k-init : goal.loop-k-init
loop-k-init g c =
    let a = c.args in
    let p = g.C.Cost.price a.cost.now in
    let first = take_more_set a.boundaries.now 0 0 (omega arith) in (
      refl,
      subst (λ xs. Walking p a.end a.c 0 xs 0 0 0) (sym first) (walking_start p a.end a.c),
      subst (λ (t : Trial). Trail g.C.Cost.put a.cost.now t.questions a.cost.now) (sym (trial_first p a.end a.c)) (trail_none g.C.Cost.put a.cost.now),
    )

pub overflow_add-questions : goal.overflow_add-questions
overflow_add-questions g c =
    let a = c.args in
    let l = c.loop-k in
    let r = c.halving-boundary.result in
    let p = g.C.Cost.price a.cost.now in
    let fits : l.k < 2 ^ 32 = omega arith in
    let e : r ≡ halved p l.k l.start l.start a.end a.c = c.halving-boundary.ensures.exact ∙ ap (λ q. halved q l.k l.start l.start a.end a.c) l.invariant.0 in
    let most = walking_few p (g.met.C.Cost.lawful a.cost.now) a.end a.c l.k fits c.requires.within (take (l.k + 1) l.boundaries) l.start l.worst l.questions l.invariant.1 r.0 r.1 r.2 e a.blocks (omega arith) c.requires.few in
    omega (arith, most)

pub returns-then-not-grants : goal.returns-then-not-grants
returns-then-not-grants g c =
    let a = c.args in
    let l = c.loop-k in
    let r = c.halving-boundary.result in
    let p = g.C.Cost.price a.cost.now in
    let law = g.met.C.Cost.lawful a.cost.now in
    let fits : l.k < 2 ^ 32 = omega arith in
    let cut : List ℕ = take (l.k + 1) l.boundaries in
    let e : r ≡ halved p l.k l.start l.start a.end a.c = c.halving-boundary.ensures.exact ∙ ap (λ q. halved q l.k l.start l.start a.end a.c) l.invariant.0 in
    let asks : Trail g.C.Cost.put l.cost (halving_asks p l.k l.start l.start a.end a.c) c.halving-boundary.new.cost = subst (λ q. Trail g.C.Cost.put l.cost (halving_asks q l.k l.start l.start a.end a.c) c.halving-boundary.new.cost) l.invariant.0 c.halving-boundary.ensures.puts in
    let on = trail_more g.C.Cost.put a.cost.now l.cost c.halving-boundary.new.cost (trial_to p a.end a.c l.k).questions (halving_asks p l.k l.start l.start a.end a.c) l.invariant.2 asks in
    let no = leb-false r.1 a.c (sym c.grants.ensures ∙ c.if-not-grants.true) in
    let more : l.k < a.blocks = omega arith in
    let exact = failed_is p law a.end a.c l.k fits c.requires.within cut l.start l.worst l.questions l.invariant.1 r.0 r.1 r.2 e no a.blocks more in
    let written = front_is l.boundaries (trial_to p a.end a.c a.blocks).cut (l.k + 1) (failed_cut p law a.end a.c l.k fits c.requires.within cut l.start l.worst l.questions l.invariant.1 r.0 r.1 r.2 e no a.blocks more) l.invariant.1.size in
    let all : a.blocks < 2 ^ 32 = omega arith in
    record {
      exact = exact;
      written = written;
      law = trial_law p law a.end a.c a.blocks all c.requires.within l.boundaries (Err (l.questions + r.2)) exact written;
      same = c.halving-boundary.ensures.same ∙ l.invariant.0;
      puts = subst (λ qs. Trail g.C.Cost.put a.cost.now qs c.halving-boundary.new.cost) (sym (failed_asks p law a.end a.c l.k fits c.requires.within cut l.start l.worst l.questions l.invariant.1 r.0 r.1 r.2 e no a.blocks more)) on;
    }

pub loop-k-preserved : goal.loop-k-preserved
loop-k-preserved g c =
    let a = c.args in
    let l = c.loop-k in
    let r = c.halving-boundary.result in
    let p = g.C.Cost.price a.cost.now in
    let law = g.met.C.Cost.lawful a.cost.now in
    let fits : l.k < 2 ^ 32 = omega arith in
    let cut : List ℕ = take (l.k + 1) l.boundaries in
    let e : r ≡ halved p l.k l.start l.start a.end a.c = c.halving-boundary.ensures.exact ∙ ap (λ q. halved q l.k l.start l.start a.end a.c) l.invariant.0 in
    let asks : Trail g.C.Cost.put l.cost (halving_asks p l.k l.start l.start a.end a.c) c.halving-boundary.new.cost = subst (λ q. Trail g.C.Cost.put l.cost (halving_asks q l.k l.start l.start a.end a.c) c.halving-boundary.new.cost) l.invariant.0 c.halving-boundary.ensures.puts in
    let on = trail_more g.C.Cost.put a.cost.now l.cost c.halving-boundary.new.cost (trial_to p a.end a.c l.k).questions (halving_asks p l.k l.start l.start a.end a.c) l.invariant.2 asks in
    let yes = leb-true r.1 a.c (sym c.grants.ensures ∙ c.if-not-grants.false) in
    let next = walking_next p law a.end a.c l.k fits c.requires.within cut l.start l.worst l.questions l.invariant.1 r.0 r.1 r.2 e yes in
    let more = take_more_set l.boundaries (l.k + 1) r.0 (omega (arith, l.auto.boundaries, length-set a.boundaries.now 0 0)) in
    let there = subst (λ xs. Walking p a.end a.c (l.k + 1) xs r.0 (max l.worst r.1) (l.questions + r.2)) (sym more) next in (
      c.halving-boundary.ensures.same ∙ l.invariant.0,
      subst (λ w. Walking p a.end a.c (l.k + 1) (take (l.k + 1 + 1) (set l.boundaries (l.k + 1) r.0)) r.0 w (l.questions + r.2)) (sym c.dearer-worst.ensures) there,
      subst (λ qs. Trail g.C.Cost.put a.cost.now qs c.halving-boundary.new.cost) (sym (walking_asks p law a.end a.c l.k fits c.requires.within cut l.start l.worst l.questions l.invariant.1 r.0 r.1 r.2 e yes)) on,
    )

pub returns-then-start-end : goal.returns-then-start-end
returns-then-start-end g c =
    let a = c.args in
    let l = c.loop-k in
    let p = g.C.Cost.price a.cost.now in
    let all : l.k ≡ a.blocks = omega arith in
    let done = subst (λ k. Walking p a.end a.c k (take (l.k + 1) l.boundaries) l.start l.worst l.questions) all l.invariant.1 in
    let exact = reached_is p a.end a.c a.blocks (take (l.k + 1) l.boundaries) l.start l.worst l.questions done (omega (arith, c.if-start-end.true)) in
    let written = front_is l.boundaries (trial_to p a.end a.c a.blocks).cut (l.k + 1) done.cut_is l.invariant.1.size in
    let fits : a.blocks < 2 ^ 32 = omega arith in
    record {
      exact = exact;
      written = written;
      law = trial_law p (g.met.C.Cost.lawful a.cost.now) a.end a.c a.blocks fits c.requires.within l.boundaries (Ok (l.worst, l.questions)) exact written;
      same = l.invariant.0;
      puts = subst (λ k. Trail g.C.Cost.put a.cost.now (trial_to p a.end a.c k).questions l.cost) all l.invariant.2;
    }

pub returns-else-start-end : goal.returns-else-start-end
returns-else-start-end g c =
    let a = c.args in
    let l = c.loop-k in
    let p = g.C.Cost.price a.cost.now in
    let all : l.k ≡ a.blocks = omega arith in
    let done = subst (λ k. Walking p a.end a.c k (take (l.k + 1) l.boundaries) l.start l.worst l.questions) all l.invariant.1 in
    let exact = short_is p a.end a.c a.blocks (take (l.k + 1) l.boundaries) l.start l.worst l.questions done (λ e. omega (arith, c.if-start-end.false)) in
    let written = front_is l.boundaries (trial_to p a.end a.c a.blocks).cut (l.k + 1) done.cut_is l.invariant.1.size in
    let fits : a.blocks < 2 ^ 32 = omega arith in
    record {
      exact = exact;
      written = written;
      law = trial_law p (g.met.C.Cost.lawful a.cost.now) a.end a.c a.blocks fits c.requires.within l.boundaries (Err l.questions) exact written;
      same = l.invariant.0;
      puts = subst (λ k. Trail g.C.Cost.put a.cost.now (trial_to p a.end a.c k).questions l.cost) all l.invariant.2;
    }
