-- What a grid means.
use Rattle.pattern.specs.Sparsity.{Sparsity}
use Rattle.grid.specs.Lattice.{lattice_sparsity}
use Rattle.grid.specs.declared.grid.Grid.{Grid}

abbrev pub sparsity_of : Grid → Sparsity
sparsity_of g = lattice_sparsity g.width g.height
