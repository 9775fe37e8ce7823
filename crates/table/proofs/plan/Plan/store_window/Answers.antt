use Rattle.std.proofs.Common.{◌≡◌, ℕ, ◌+◌, ◌-◌, ◌*◌, ◌<◌, ◌≤◌, min, ◌⊎◌, length, ap, ◌∙◌, subst, inl, inr, ⊎_elim, arith}
use Rattle.std.proofs.lemmas.List.{get_or-replicate, length-replicate}
use Rattle.std.proofs.lemmas.Bool.{cases_lt}
use Rattle.levels.specs.Layouts.{end_of}
use Rattle.levels.proofs.Frames.{outside_then}
use Rattle.table.specs.Words.{total_entries}
use Rattle.table.proofs.Batches.{batched_word}
use Rattle.table.proofs.Stored.{stored_more}
use Rattle.table.proofs.plan.Plan.store_window.Goals as goal

pub start-walk-requires : goal.start-walk-requires
start-walk-requires g c = λ d h. get_or-replicate {A = ℕ} 262144 d 0 0 (subst (λ n. d < n) (length-replicate {A = ℕ} 262144 0) h)

pub loop-word-preserved : goal.loop-word-preserved
loop-word-preserved g c =
    let s = g.P.Pattern.sparsity c.args.self.now.pattern.now in
    let i = c.loop-word.invariant in
    let l = c.args.self.now.layout in
    let word = c.loop-word.word in
    let walk = c.loop-word.walk in
    let p = c.put_batch.ensures in
    let n = c.next_word.ensures in
    let b =
    batched_word (g.P.Pattern.sparsity walk.pattern.now) s walk.cursor walk.first c.args.first (length walk.window.now) 262144 walk.left c.args.self.now.entries word c.next_word.result
    (ap (λ r. g.P.Pattern.sparsity r.now) i.same.0) i.same.1 i.same.2 walk.rest i.left c.args.self.now.total (omega (arith, c.args.self.now.total)) n.batch in
    let size = min (total_entries s - 64 * word) 64 in
    let all : (total_entries s ≤ 64 * word + size) ⊎ (size ≡ 64) =
    ⊎_elim (λ (h : size < 64). inl (omega arith)) (λ (h : 64 ≤ size). inr (omega arith)) (cases_lt size 64) in
    record {
      same = (n.same.0 ∙ i.same.0, n.same.1 ∙ i.same.1, n.same.2 ∙ i.same.2);
      left = omega (arith, n.moved, i.left);
      stored = stored_more s c.args.first 262144 l c.loop-word.memory c.put_batch.new.memory word size c.next_word.result all b p.here p.kept p.others i.stored;
      outside = outside_then l.start (end_of l) c.args.memory.now c.loop-word.memory c.put_batch.new.memory i.outside p.outside;
    }
