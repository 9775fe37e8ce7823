use Rattle.std.proofs.Common.{◌<◌, length, vec_items, arith, rules, below_more}
use Rattle.std.specs.Slice.Iter.{windows_rest}
use Rattle.std.proofs.lemmas.Iterator.{window_more}
use Rattle.stored.specs.Rows.{bounds_in, bounds_end, bounds_csr, bounds_row, ordered_from}
use Rattle.stored.proofs.lists.Unchecked.rows_ordered.Goals as goal

pub slice_bounds-row-end : goal.slice_bounds-row-end
slice_bounds-row-end c =
    let u = c.args.self.now in
    let i = c.loop-bounds.invariant in
    let h = window_more (vec_items u.starts) c.loop-bounds.bounds-iterator c.next.new.self _ _ c.in-Some.is c.next.ensures.steps (search rules) i.some i.left in
    rw c.deref-in-loop-bounds.ensures.value
    (bounds_end u.width (vec_items u.starts) (vec_items u.columns) c.requires.1 c.requires.2 _ _ (bounds_in (vec_items u.starts) _ _ _ i.pairs h.2 i.some h.3))

pub returns-then-not-row_ordered : goal.returns-then-not-row_ordered
returns-then-not-row_ordered c = λ ordered.
    let u = c.args.self.now in
    let i = c.loop-bounds.invariant in
    let h = window_more (vec_items u.starts) c.loop-bounds.bounds-iterator c.next.new.self _ _ c.in-Some.is c.next.ensures.steps (search rules) i.some i.left in
    let e = bounds_row u.width (vec_items u.starts) (vec_items u.columns) c.requires.1 c.requires.2 _ _ (bounds_in (vec_items u.starts) _ _ _ i.pairs h.2 i.some h.3) in
    c.if-not-row_ordered.ensures (rw (c.deref-in-loop-bounds.ensures.value, e) (ordered _))

pub loop-bounds-preserved : goal.loop-bounds-preserved
loop-bounds-preserved c =
    let u = c.args.self.now in
    let i = c.loop-bounds.invariant in
    let h = window_more (vec_items u.starts) c.loop-bounds.bounds-iterator c.next.new.self _ _ c.in-Some.is c.next.ensures.steps (search rules) i.some i.left in
    let e = bounds_csr u.width (vec_items u.starts) (vec_items u.columns) c.requires.1 c.requires.2 _ _ (bounds_in (vec_items u.starts) _ _ _ i.pairs h.2 i.some h.3) in
    let here = rw (c.deref-in-loop-bounds.ensures.value, e) at c.if-not-row_ordered.ensures in
    record {
      pairs = search rules;
      some = omega (arith, h.0);
      left = h.1;
      before = λ k l. below_more _ _ i.before here k (omega (arith, h.0));
    }

pub returns : goal.returns
returns c =
    let u = c.args.self.now in
    let last : length (windows_rest c.loop-bounds.bounds-iterator) < 2 = search rules in
    ordered_from u.width (vec_items u.starts) (vec_items u.columns) (λ i l. c.loop-bounds.invariant.before i (omega arith))
