use Rattle.std.proofs.Common.{Some, ap, ◌∙◌, arith}
use Rattle.table.proofs.Walked.{knows_here, knows_past, position_left, shown_here, shown_past, stands_onward}
use Rattle.table.proofs.walk.Walk.next_code.Goals as goal

pub overflow_sub-self : goal.overflow_sub-self
overflow_sub-self g c =
    let walk = c.args.self.now in
    let lawful = g.met.P.Pattern.lawful walk.pattern.now in
    omega (arith, position_left (g.P.Pattern.sparsity walk.pattern.now) lawful walk.cursor walk.stands c.requires c.column-column.result c.column-column.ensures, walk.rest)

pub invariant_of-self : goal.invariant_of-self
invariant_of-self g c =
    let walk = c.args.self.now in
    let s = g.P.Pattern.sparsity walk.pattern.now in
    let lawful = g.met.P.Pattern.lawful walk.pattern.now in
    let x = c.column-column in
    record {
      stands = stands_onward s lawful walk.cursor walk.stands c.requires x.result x.ensures;
      rest = omega (arith, position_left s lawful walk.cursor walk.stands c.requires x.result x.ensures, walk.rest);
      knows = knows_past s lawful walk.cursor walk.stands c.requires x.result x.ensures walk.first walk.window.now walk.knows c.in_err-place.ensures;
    }

pub returns-in_err-place-clause-value : goal.returns-in_err-place-clause-value
returns-in_err-place-clause-value g c =
    let walk = c.args.self.now in
    let s = g.P.Pattern.sparsity walk.pattern.now in
    let lawful = g.met.P.Pattern.lawful walk.pattern.now in
    let x = c.column-column in
    c.from_residual.ensures
    ∙ shown_past s lawful walk.cursor walk.stands c.requires x.result x.ensures walk.first walk.window.now walk.knows c.in_err-place.ensures

pub invariant_of-self-2 : goal.invariant_of-self-2
invariant_of-self-2 g c =
    let walk = c.args.self.now in
    let s = g.P.Pattern.sparsity walk.pattern.now in
    let lawful = g.met.P.Pattern.lawful walk.pattern.now in
    let x = c.column-column in
    let t = c.in_ok-place.ensures in
    record {
      stands = stands_onward s lawful walk.cursor walk.stands c.requires x.result x.ensures;
      rest = omega (arith, position_left s lawful walk.cursor walk.stands c.requires x.result x.ensures, walk.rest);
      knows =
          knows_here s lawful walk.cursor walk.stands c.requires x.result x.ensures walk.first walk.window.now walk.knows c.in_ok-place.place c.replace.new.dest t.1 t.0
          (c.replace.ensures.after ∙ c.code_of.ensures);
    }

pub returns-clause-value : goal.returns-clause-value
returns-clause-value g c =
    let walk = c.args.self.now in
    let s = g.P.Pattern.sparsity walk.pattern.now in
    let lawful = g.met.P.Pattern.lawful walk.pattern.now in
    let x = c.column-column in
    let t = c.in_ok-place.ensures in
    ap (λ v. Some v) c.replace.ensures.value
    ∙ shown_here s lawful walk.cursor walk.stands c.requires x.result x.ensures walk.first walk.window.now walk.knows c.in_ok-place.place t.1 t.0
