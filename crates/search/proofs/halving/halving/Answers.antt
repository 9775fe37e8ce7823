use Rattle.std.proofs.Common.{◌≡◌, ◌+◌, ◌-◌, ◌^◌, ◌<◌, sym, refl, ◌∙◌, subst, arith}
use Rattle.std.proofs.lemmas.Bool.{leb-true, leb-false}
use Rattle.search.specs.Digits.{digits}
use Rattle.search.specs.Trails.{Trail}
use Rattle.search.specs.Halving.{halves}
use Rattle.search.proofs.Widths.{digits_rows}
use Rattle.search.proofs.Trailing.{trail_none, trail_one}
use Rattle.search.proofs.Halves.{going_start, going_room, turn_grant, turn_refuse, halves_all, halves_stop, ended_granted, ended_refused, enough, asked_at}
use Rattle.search.proofs.halving.halving.Goals as goal

pub loop-from-init : goal.loop-from-init
loop-from-init g c =
    let a = c.args in
    let p = g.C.Cost.price a.cost.now in
    let fits : a.block < 2 ^ 32 = omega arith in (
      refl,
      going_start p (g.met.C.Cost.lawful a.cost.now) a.block a.start a.start a.high a.c fits (omega arith) c.requires.within c.requires.order,
      record { yes = λ z. absurd (omega arith); no = λ z. absurd (omega arith) },
      λ z t. subst (λ qs. Trail g.C.Cost.put a.cost.now qs z) (halves_all p a.block a.start a.start a.high a.c) t,
    )

pub one_more-questions-requires : goal.one_more-questions-requires
one_more-questions-requires g c =
    let a = c.args in
    let l = c.loop-from in
    let p = g.C.Cost.price a.cost.now in
    let law = g.met.C.Cost.lawful a.cost.now in
    let fits : a.block < 2 ^ 32 = omega arith in
    let room = going_room p law a.block a.start a.start a.high a.c fits (omega arith) c.requires.within l.from l.past l.questions l.invariant.1 c.loop-from-test.true in
    omega (arith, room, digits_rows a.high (omega (arith, c.requires.within, law.few)))

pub loop-from-preserved-then-grants : goal.loop-from-preserved-then-grants
loop-from-preserved-then-grants g c =
    let a = c.args in
    let l = c.loop-from in
    let m = c.middle_of-middle.result in
    let w = c.ask-figure.result in
    let n = c.one_more-questions.result in
    let next = c.ask-figure.new.cost in
    let p = g.C.Cost.price a.cost.now in
    let law = g.met.C.Cost.lawful a.cost.now in
    let fits : a.block < 2 ^ 32 = omega arith in
    let going = l.invariant.1 in
    let is : w ≡ p.figure a.block a.start m = asked_at p (g.C.Cost.price l.cost) a.block a.start m w l.invariant.0 (omega (arith, going.from, c.middle_of-middle.ensures)) (omega (arith, c.requires.within, going.within, c.middle_of-middle.ensures)) c.ask-figure.ensures.value in
    let yes = leb-true w a.c (sym c.grants.ensures ∙ c.if-grants.true) in
    let turn = turn_grant p law a.block a.start a.start a.high a.c fits (omega arith) c.requires.within l.from l.past l.questions going c.loop-from-test.true m w n l.granted l.refused c.middle_of-middle.ensures c.one_more-questions.ensures l.invariant.2 c.row_after-from.result c.row_after-from.ensures is yes in (
      c.ask-figure.ensures.same ∙ l.invariant.0,
      turn.0,
      turn.1,
      λ z t. l.invariant.3 z (subst (λ qs. Trail g.C.Cost.put l.cost qs z) (sym turn.2) (trail_one g.C.Cost.put l.cost next z (a.block, a.start, m) (halves p a.block a.start a.c (digits (a.high + 1) - n) c.row_after-from.result l.past) c.ask-figure.ensures.puts t)),
    )

pub loop-from-preserved : goal.loop-from-preserved
loop-from-preserved g c =
    let a = c.args in
    let l = c.loop-from in
    let m = c.middle_of-middle.result in
    let w = c.ask-figure.result in
    let n = c.one_more-questions.result in
    let next = c.ask-figure.new.cost in
    let p = g.C.Cost.price a.cost.now in
    let law = g.met.C.Cost.lawful a.cost.now in
    let fits : a.block < 2 ^ 32 = omega arith in
    let going = l.invariant.1 in
    let is : w ≡ p.figure a.block a.start m = asked_at p (g.C.Cost.price l.cost) a.block a.start m w l.invariant.0 (omega (arith, going.from, c.middle_of-middle.ensures)) (omega (arith, c.requires.within, going.within, c.middle_of-middle.ensures)) c.ask-figure.ensures.value in
    let no = leb-false w a.c (sym c.grants.ensures ∙ c.if-grants.false) in
    let turn = turn_refuse p law a.block a.start a.start a.high a.c fits (omega arith) c.requires.within l.from l.past l.questions going c.loop-from-test.true m w n l.granted l.refused c.middle_of-middle.ensures c.one_more-questions.ensures l.invariant.2 is no in (
      c.ask-figure.ensures.same ∙ l.invariant.0,
      turn.0,
      turn.1,
      λ z t. l.invariant.3 z (subst (λ qs. Trail g.C.Cost.put l.cost qs z) (sym turn.2) (trail_one g.C.Cost.put l.cost next z (a.block, a.start, m) (halves p a.block a.start a.c (digits (a.high + 1) - n) l.from m) c.ask-figure.ensures.puts t)),
    )

pub returns-then-from-start : goal.returns-then-from-start
returns-then-from-start g c =
    let a = c.args in
    let l = c.loop-from in
    let p = g.C.Cost.price a.cost.now in
    let law = g.met.C.Cost.lawful a.cost.now in
    let fits : a.block < 2 ^ 32 = omega arith in
    let e = ended_granted p law a.block a.start a.start a.high a.c fits (omega arith) c.requires.within l.from l.past l.questions l.invariant.1 c.loop-from-test.false l.granted l.refused l.invariant.2 c.requires.order c.if-from-start.true in
    let stop = halves_stop p a.block a.start a.c (digits (a.high + 1) - l.questions) l.from l.past c.loop-from-test.false in
    record {
      exact = e.exact;
      furthest = e.furthest;
      enough = enough p a.block a.start a.c a.start a.high (omega (arith, c.requires.within, law.few));
      same = l.invariant.0;
      puts = l.invariant.3 l.cost (subst (λ qs. Trail g.C.Cost.put l.cost qs l.cost) (sym stop) (trail_none g.C.Cost.put l.cost));
    }

pub returns-else-from-start : goal.returns-else-from-start
returns-else-from-start g c =
    let a = c.args in
    let l = c.loop-from in
    let p = g.C.Cost.price a.cost.now in
    let law = g.met.C.Cost.lawful a.cost.now in
    let fits : a.block < 2 ^ 32 = omega arith in
    let e = ended_refused p law a.block a.start a.start a.high a.c fits (omega arith) c.requires.within l.from l.past l.questions l.invariant.1 c.loop-from-test.false l.granted l.refused l.invariant.2 c.requires.order c.if-from-start.false in
    let stop = halves_stop p a.block a.start a.c (digits (a.high + 1) - l.questions) l.from l.past c.loop-from-test.false in
    record {
      exact = e.exact;
      furthest = e.furthest;
      enough = enough p a.block a.start a.c a.start a.high (omega (arith, c.requires.within, law.few));
      same = l.invariant.0;
      puts = l.invariant.3 l.cost (subst (λ qs. Trail g.C.Cost.put l.cost qs l.cost) (sym stop) (trail_none g.C.Cost.put l.cost));
    }
