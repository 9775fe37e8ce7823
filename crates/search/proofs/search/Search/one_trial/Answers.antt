use Rattle.std.proofs.Common.{◌≡◌, ◌+◌, length, take, sym, refl, ap, ◌∙◌, subst, arith}
use Rattle.search.specs.Trails.{Trail}
use Rattle.search.specs.Trial.{trial_to, outcome}
use Rattle.search.specs.Play.{trial_at}
use Rattle.search.specs.Of.{view_of}
use Rattle.search.specs.Purposes.{advances}
use Rattle.search.proofs.Sanes.{Won, won, failed, won_low, won_size, few_asks, ranges_gained, ranges_lost, counts_next, gained_is, lost_is}
use Rattle.search.proofs.search.Search.one_trial.Goals as goal

pub overflow_add-self-in-Ok : goal.overflow_add-self-in-Ok
overflow_add-self-in-Ok g c =
    let s = c.args.self.now in
    let p = g.C.Cost.price s.cost in
    let law = g.met.C.Cost.lawful s.cost in
    let at = c.args.c in
    let same = c.in-Ok.ensures.exact ∙ ap (λ m. outcome m s.blocks (trial_to p m at s.blocks)) c.row_count-rows.ensures in
    let h = won p.rows s.blocks (trial_at p s.blocks at) c.in-Ok.figure c.in-Ok.asked same in
    omega (arith, s.counts, few_asks p law s.blocks at s.shape.1 c.in-Ok.asked h.questions)

pub invariant_of-self : goal.invariant_of-self
invariant_of-self g c =
    let s = c.args.self.now in
    let p = g.C.Cost.price s.cost in
    let law = g.met.C.Cost.lawful s.cost in
    let at = c.args.c in
    let x = c.counts-advances.result in
    let same = c.in-Ok.ensures.exact ∙ ap (λ m. outcome m s.blocks (trial_to p m at s.blocks)) c.row_count-rows.ensures in
    let h = won p.rows s.blocks (trial_at p s.blocks at) c.in-Ok.figure c.in-Ok.asked same in
    let low = won_low p law s.blocks at s.shape.1 c.in-Ok.figure c.in-Ok.asked h in
    let few = few_asks p law s.blocks at s.shape.1 c.in-Ok.asked h.questions in
    record {
      shape = s.shape;
      ranges = ranges_gained s.ceiling s.shape.2 (view_of s) s.ranges s.counts at c.requires.above c.requires.under (advances c.args.purpose) c.requires.fair x.0 c.counts-advances.ensures.advances c.standing_at-self.result (omega (arith, low, c.standing_at-self.ensures));
      counts = counts_next s.ceiling s.shape.2 (view_of s) s.ranges s.counts at c.requires.above c.requires.under (advances c.args.purpose) c.requires.fair x.0 x.1 c.counts-advances.ensures.advances c.counts-advances.ensures.tries c.in-Ok.asked few;
    }

pub overflow_add-self-in-Err : goal.overflow_add-self-in-Err
overflow_add-self-in-Err g c =
    let s = c.args.self.now in
    let p = g.C.Cost.price s.cost in
    let law = g.met.C.Cost.lawful s.cost in
    let at = c.args.c in
    let same = c.in-Err.ensures.exact ∙ ap (λ m. outcome m s.blocks (trial_to p m at s.blocks)) c.row_count-rows.ensures in
    let h = failed p.rows s.blocks (trial_at p s.blocks at) c.in-Err.asked same in
    omega (arith, s.counts, few_asks p law s.blocks at s.shape.1 c.in-Err.asked h.questions)

pub invariant_of-self-in-Err : goal.invariant_of-self-in-Err
invariant_of-self-in-Err g c =
    let s = c.args.self.now in
    let p = g.C.Cost.price s.cost in
    let law = g.met.C.Cost.lawful s.cost in
    let at = c.args.c in
    let x = c.counts-advances.result in
    let same = c.in-Err.ensures.exact ∙ ap (λ m. outcome m s.blocks (trial_to p m at s.blocks)) c.row_count-rows.ensures in
    let h = failed p.rows s.blocks (trial_at p s.blocks at) c.in-Err.asked same in
    let few = few_asks p law s.blocks at s.shape.1 c.in-Err.asked h.questions in
    record {
      shape = s.shape;
      ranges = ranges_lost s.ceiling s.shape.2 (view_of s) s.ranges s.counts at c.requires.above c.requires.under (advances c.args.purpose) c.requires.fair x.0 c.counts-advances.ensures.advances c.raised-self.result c.raised-self.ensures;
      counts = counts_next s.ceiling s.shape.2 (view_of s) s.ranges s.counts at c.requires.above c.requires.under (advances c.args.purpose) c.requires.fair x.0 x.1 c.counts-advances.ensures.advances c.counts-advances.ensures.tries c.in-Err.asked few;
    }

pub returns-in-Ok : goal.returns-in-Ok
returns-in-Ok g c =
    let s = c.args.self.now in
    let p = g.C.Cost.price s.cost in
    let at = c.args.c in
    let x = c.counts-advances.result in
    let rows = c.row_count-rows.ensures in
    let wrote = c.trial-outcome.new.boundaries in
    let same = c.in-Ok.ensures.exact ∙ ap (λ m. outcome m s.blocks (trial_to p m at s.blocks)) rows in
    let h = won p.rows s.blocks (trial_at p s.blocks at) c.in-Ok.figure c.in-Ok.asked same in
    let size = won_size p (g.met.C.Cost.lawful s.cost) s.blocks at s.shape.1 c.in-Ok.figure c.in-Ok.asked h in
    let written = subst (λ m. take (length (trial_to p m at s.blocks).cut) wrote ≡ (trial_to p m at s.blocks).cut) rows c.trial-outcome.ensures.written in
    let cut : take (s.blocks + 1) wrote ≡ (trial_at p s.blocks at).cut = ap (λ n. take n wrote) (sym size) ∙ written in
    record {
      exact = gained_is p s.blocks at (view_of s) (advances c.args.purpose) x.0 x.1 c.in-Ok.asked c.counts-advances.ensures.advances c.counts-advances.ensures.tries c.standing_at-self.result (take (s.blocks + 1) wrote) (subst (λ w. Won p.rows s.blocks (trial_at p s.blocks at) w c.in-Ok.asked) (sym c.standing_at-self.ensures) h) cut;
      answer = h.reached;
      kept = (c.trial-outcome.ensures.same, refl, refl);
      puts = subst (λ m. Trail g.C.Cost.put s.cost (trial_to p m at s.blocks).questions c.trial-outcome.new.cost) rows c.trial-outcome.ensures.puts;
    }

pub returns-in-Err : goal.returns-in-Err
returns-in-Err g c =
    let s = c.args.self.now in
    let p = g.C.Cost.price s.cost in
    let at = c.args.c in
    let x = c.counts-advances.result in
    let rows = c.row_count-rows.ensures in
    let same = c.in-Err.ensures.exact ∙ ap (λ m. outcome m s.blocks (trial_to p m at s.blocks)) rows in
    let h = failed p.rows s.blocks (trial_at p s.blocks at) c.in-Err.asked same in
    record {
      exact = lost_is p s.blocks at (view_of s) (advances c.args.purpose) x.0 x.1 c.in-Err.asked c.counts-advances.ensures.advances c.counts-advances.ensures.tries c.raised-self.result c.raised-self.ensures h;
      answer = h.reached;
      kept = (c.trial-outcome.ensures.same, refl, refl);
      puts = subst (λ m. Trail g.C.Cost.put s.cost (trial_to p m at s.blocks).questions c.trial-outcome.new.cost) rows c.trial-outcome.ensures.puts;
    }
