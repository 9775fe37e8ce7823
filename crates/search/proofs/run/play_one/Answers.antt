use Rattle.std.proofs.Common.{sym, ap, ◌∙◌, subst}
use Rattle.search.specs.declared.call.Call.TheVariants.{Take, Tell}
use Rattle.search.specs.declared.call.Answer.TheVariants.{Taken, Told}
use Rattle.search.specs.Runs.{answer_of}
use Rattle.search.specs.Of.{view_of, Follows}
use Rattle.search.proofs.Along.{follows_same, take_same, take_unasked, tell_same, tell_unasked}
use Rattle.search.proofs.run.play_one.Goals as goal

pub returns-in-Take : goal.returns-in-Take
returns-in-Take g c =
    let s = c.args.search.now in
    let p = g.C.Cost.price s.cost in
    let n = c.in-Take.places in
    let still = follows_same g.C.Cost.price g.C.Cost.put (Take n) s (take_same p s.blocks s.ceiling (view_of s) n) (take_unasked p s.blocks s.ceiling (view_of s) n) in
    record {
      follows = subst (λ t. Follows g.C.Cost.price g.C.Cost.put c.args.call s t) (sym c.take_into.ensures.unchanged) (subst (λ x. Follows g.C.Cost.price g.C.Cost.put x s s) (sym c.in-Take.is) still);
      answer = ap Taken c.take_into.ensures.answer ∙ ap (λ x. answer_of p s.blocks s.ceiling x (view_of s)) (sym c.in-Take.is);
    }

pub returns-in-Tell : goal.returns-in-Tell
returns-in-Tell g c =
    let s = c.args.search.now in
    let p = g.C.Cost.price s.cost in
    let still = follows_same g.C.Cost.price g.C.Cost.put Tell s (tell_same p s.blocks s.ceiling (view_of s)) (tell_unasked p s.blocks s.ceiling (view_of s)) in
    record {
      follows = subst (λ x. Follows g.C.Cost.price g.C.Cost.put x s s) (sym c.in-Tell.is) still;
      answer = ap Told c.tell.ensures.exact ∙ ap (λ x. answer_of p s.blocks s.ceiling x (view_of s)) (sym c.in-Tell.is);
    }
