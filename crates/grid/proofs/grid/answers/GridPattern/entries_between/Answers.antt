use Rattle.std.proofs.Common.{arith}
use Rattle.grid.specs.Grids.{sparsity_of}
use Rattle.grid.specs.Rows.{length_lattice}
use Rattle.grid.proofs.Prefixes.{entries_cut}
use Rattle.grid.proofs.grid.answers.GridPattern.entries_between.Goals as goal

pub overflow_sub-result : goal.overflow_sub-result
overflow_sub-result c =
    let g = c.args.self.now in
    let points = length_lattice g.width g.height in
    omega (arith, entries_cut (sparsity_of g) c.args.from c.args.to c.min-end.result c.min.result (omega arith) (omega arith))

pub returns : goal.returns
returns c =
    let g = c.args.self.now in
    let points = length_lattice g.width g.height in
    omega (arith, entries_cut (sparsity_of g) c.args.from c.args.to c.min-end.result c.min.result (omega arith) (omega arith))
