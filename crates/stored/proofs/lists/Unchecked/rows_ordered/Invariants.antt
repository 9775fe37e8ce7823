use Rattle.std.proofs.Common.{◌≡◌, ℕ, ◌-◌, ◌<◌, ◌≤◌, length, drop, vec_items}
use Rattle.std.specs.Slice.Iter.{windows_size, windows_rest}
use Rattle.pattern.specs.Sparsity.{RowOrdered}
use Rattle.stored.specs.Csr.{csr_row}
use Rattle.stored.proofs.lists.Unchecked.rows_ordered.Given as goal

-- the rows of the bounds gone over are in order
abbrev pub invariant-loop-bounds : goal.invariant-loop-bounds
invariant-loop-bounds l =
    let starts = vec_items l.self.starts in
    let rest = windows_rest l.bounds-iterator in
    let row = length starts - length rest in record {
      pairs : windows_size l.bounds-iterator ≡ 2;
      some : length rest ≤ length starts;
      left : rest ≡ drop row starts;
      before : (k : ℕ) → k < row → RowOrdered l.self.width (csr_row starts (vec_items l.self.columns) k);
    }
