use Rattle.std.proofs.Common.{◌≡◌, ◌+◌, cond, length, get_or, set, None, refl, ap, ◌∙◌, sym, arith}
use Rattle.std.proofs.lemmas.Bool.{le-ltb}
use Rattle.std.proofs.lemmas.List.{get_or-replicate, length-set}
use Rattle.table.specs.Walks.{position, shown}
use Rattle.table.specs.Words.{total_entries}
use Rattle.table.proofs.Batches.{batched_more, shown_same}
use Rattle.table.proofs.walk.Walk.next_word.Goals as goal

pub loop-place-init : goal.loop-place-init
loop-place-init g c =
    let walk = c.args.self.now in
    let s = g.P.Pattern.sparsity walk.pattern.now in
    let q = position s walk.cursor in
    record {
      same = (refl, refl, refl);
      moved = omega arith;
      batch = λ k h.
          ap (λ l. get_or l k None) c.empty-batch.ensures ∙ get_or-replicate 64 k None None h
          ∙ sym (ap (λ t. cond t (shown s walk.first (length walk.window.now) (q + k)) None) (le-ltb k 0 (omega arith)));
      long = ap length c.empty-batch.ensures;
    }

pub loop-place-preserved : goal.loop-place-preserved
loop-place-preserved g c =
    let walk = c.args.self.now in
    let s = g.P.Pattern.sparsity walk.pattern.now in
    let i = c.loop-place.invariant in
    let k = c.skip_empty_rows.ensures in
    let n = c.next_code.ensures in
    let at = c.skip_empty_rows.new.self in
    let t = g.P.Pattern.sparsity at.pattern.now in
    let place = c.loop-place.place in
    let found = c.loop-place.batch.found in
    let es : t ≡ s = ap (λ r. g.P.Pattern.sparsity r.now) (k.same.0 ∙ i.same.0) in
    let eq : position t at.cursor ≡ position s walk.cursor + place = omega (arith, at.rest, walk.rest, ap total_entries es, k.still, i.moved) in
    let v = n.value ∙ shown_same t s at.first walk.first (length at.window.now) (length walk.window.now) (position t at.cursor) (position s walk.cursor + place) es
    (k.same.1 ∙ i.same.1) (k.same.2 ∙ i.same.2) eq in
    record {
      same = (n.same.0 ∙ k.same.0 ∙ i.same.0, n.same.1 ∙ k.same.1 ∙ i.same.1, n.same.2 ∙ k.same.2 ∙ i.same.2);
      moved = omega (arith, n.moved, k.still, i.moved);
      batch =
          batched_more s walk.first (length walk.window.now) (position s walk.cursor) c.loop-place.batch (record { found = set found place c.next_code.result }) place (omega arith) i.long
          (ap (λ x. set found place x) v) i.batch;
      long = length-set found place c.next_code.result ∙ i.long;
    }
