use Rattle.std.proofs.Common.{◌≡◌, ◌+◌, [], ◌∷◌, ◌++◌, length, get_or, set, sym, ap, ◌∙◌, subst, ap₂, arith, length-append}
use Rattle.levels.specs.Planes.{Outside}
use Rattle.levels.proofs.Frames.{outside_set, run_more}
use Rattle.pattern.specs.Sparsity.{entries_between, row_count}
use Rattle.table.specs.Heads.{starts_from}
use Rattle.table.proofs.Runs.{starts_done, starts_turn}
use Rattle.table.proofs.plan.Plan.write_starts.Goals as goal

pub bounds-memory-row : goal.bounds-memory-row
bounds-memory-row g c =
    let s = g.P.Pattern.sparsity c.args.self.now.pattern.now in
    let left = starts_from (g.P.Pattern.sparsity c.next.new.self.pattern.now) c.next.new.self.row in
    let t = starts_turn s (length c.loop-row.yielded) (c.in-Some.row, c.in-Some.start) left (sym c.loop-row.invariant.left ∙ c.in-Some.ensures.steps) in
    omega arith

pub loop-row-preserved : goal.loop-row-preserved
loop-row-preserved g c =
    let s = g.P.Pattern.sparsity c.args.self.now.pattern.now in
    let i = c.loop-row.invariant in
    let ws = c.loop-row.memory in
    let n = length c.loop-row.yielded in
    let left = starts_from (g.P.Pattern.sparsity c.next.new.self.pattern.now) c.next.new.self.row in
    let t = starts_turn s n (c.in-Some.row, c.in-Some.start) left (sym i.left ∙ c.in-Some.ensures.steps) in
    let m : length (c.loop-row.yielded ++ (c.in-Some.row, c.in-Some.start) ∷ []) ≡ n + 1 = length-append c.loop-row.yielded ((c.in-Some.row, c.in-Some.start) ∷ []) in
    let e : set ws (3 + c.in-Some.row) c.from.result ≡ set ws (3 + n) (entries_between s 0 n) = ap₂ (λ x y. set ws (3 + x) y) t.1 (c.from.ensures ∙ t.2) in
    record {
      left = t.3 ∙ sym (ap (starts_from s) m);
      starts = λ k h. ap (λ x. get_or x (3 + k) 0) e ∙ run_more (entries_between s 0) ws 3 n (omega arith) i.starts k (omega arith);
      outside =
          subst (λ x. Outside 3 (4 + row_count s) c.args.memory.now x) (sym e)
          (outside_set 3 (4 + row_count s) c.args.memory.now ws (3 + n) (entries_between s 0 n) i.outside (omega arith) (omega arith));
    }

pub returns-clause-starts : goal.returns-clause-starts
returns-clause-starts g c =
    let s = g.P.Pattern.sparsity c.args.self.now.pattern.now in
    let e = starts_done s (length c.loop-row.yielded) (sym c.loop-row.invariant.left ∙ c.in-None.ensures.steps.0) in
    λ i h. c.loop-row.invariant.starts i (omega arith)
