use Rattle.std.proofs.Common.{◌≡◌, ◌+◌, [], ◌∷◌, ◌++◌, length, get_or, sym, ap, ◌∙◌, arith, length-append, below_more}
use Rattle.pattern.specs.Sparsity.{entries_between}
use Rattle.table.specs.Heads.{starts_from}
use Rattle.table.proofs.Runs.{starts_done, starts_turn}
use Rattle.table.proofs.plan.Plan.starts_match.Goals as goal

pub start_is-requires : goal.start_is-requires
start_is-requires g c =
    let s = g.P.Pattern.sparsity c.args.self.now.pattern.now in
    let left = starts_from (g.P.Pattern.sparsity c.next.new.self.pattern.now) c.next.new.self.row in
    let t = starts_turn s (length c.loop-row.yielded) (c.in-Some.row, c.in-Some.start) left (sym c.loop-row.invariant.left ∙ c.in-Some.ensures.steps) in
    omega arith

pub returns-then-not-start_is : goal.returns-then-not-start_is
returns-then-not-start_is g c =
    let s = g.P.Pattern.sparsity c.args.self.now.pattern.now in
    let n = length c.loop-row.yielded in
    let left = starts_from (g.P.Pattern.sparsity c.next.new.self.pattern.now) c.next.new.self.row in
    let t = starts_turn s n (c.in-Some.row, c.in-Some.start) left (sym c.loop-row.invariant.left ∙ c.in-Some.ensures.steps) in
    λ f. c.if-not-start_is.ensures (ap (λ i. get_or c.args.words.now (3 + i) 0) t.1 ∙ f n t.0 ∙ sym t.2)

pub loop-row-preserved : goal.loop-row-preserved
loop-row-preserved g c =
    let s = g.P.Pattern.sparsity c.args.self.now.pattern.now in
    let n = length c.loop-row.yielded in
    let left = starts_from (g.P.Pattern.sparsity c.next.new.self.pattern.now) c.next.new.self.row in
    let t = starts_turn s n (c.in-Some.row, c.in-Some.start) left (sym c.loop-row.invariant.left ∙ c.in-Some.ensures.steps) in
    let m : length (c.loop-row.yielded ++ (c.in-Some.row, c.in-Some.start) ∷ []) ≡ n + 1 = length-append c.loop-row.yielded ((c.in-Some.row, c.in-Some.start) ∷ []) in
    let here : get_or c.args.words.now (3 + n) 0 ≡ entries_between s 0 n =
    ap (λ i. get_or c.args.words.now (3 + i) 0) (sym t.1) ∙ c.if-not-start_is.ensures ∙ t.2 in
    record {
      left = t.3 ∙ sym (ap (starts_from s) m);
      starts = λ k h. below_more (λ j. get_or c.args.words.now (3 + j) 0 ≡ entries_between s 0 j) n c.loop-row.invariant.starts here k (omega arith);
    }

pub returns : goal.returns
returns g c =
    let s = g.P.Pattern.sparsity c.args.self.now.pattern.now in
    let e = starts_done s (length c.loop-row.yielded) (sym c.loop-row.invariant.left ∙ c.in-None.ensures.steps.0) in
    λ i h. c.loop-row.invariant.starts i (omega arith)
