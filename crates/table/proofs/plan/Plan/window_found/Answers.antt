use Rattle.std.proofs.Common.{ℕ, ◌-◌, ◌*◌, ◌<◌, min, length, ap, ◌∙◌, subst, refl, arith}
use Rattle.std.proofs.lemmas.List.{get_or-replicate, length-replicate}
use Rattle.table.specs.Words.{total_entries}
use Rattle.table.proofs.Batches.{batched_word}
use Rattle.table.proofs.Found.{found_more}
use Rattle.table.proofs.plan.Plan.window_found.Goals as goal

pub start-walk-requires : goal.start-walk-requires
start-walk-requires g c = λ d h. get_or-replicate {A = ℕ} 262144 d 0 0 (subst (λ n. d < n) (length-replicate {A = ℕ} 262144 0) h)

pub loop-word-preserved : goal.loop-word-preserved
loop-word-preserved g c =
    let s = g.P.Pattern.sparsity c.args.self.now.pattern.now in
    let i = c.loop-word.invariant in
    let word = c.loop-word.word in
    let walk = c.loop-word.walk in
    let n = c.next_word.ensures in
    let b =
    batched_word (g.P.Pattern.sparsity walk.pattern.now) s walk.cursor walk.first c.args.first (length walk.window.now) 262144 walk.left c.args.self.now.entries word c.next_word.result
    (ap (λ r. g.P.Pattern.sparsity r.now) i.same.0) i.same.1 i.same.2 walk.rest i.left c.args.self.now.total (omega (arith, c.args.self.now.total)) n.batch in
    record {
      same = (n.same.0 ∙ i.same.0, n.same.1 ∙ i.same.1, n.same.2 ∙ i.same.2);
      left = omega (arith, n.moved, i.left);
      found =
          found_more s c.args.first 262144 c.args.self.now.layout c.args.words.now word (min (total_entries s - 64 * word) 64) c.next_word.result refl b
          c.if-not-batch_found.ensures i.found;
    }
