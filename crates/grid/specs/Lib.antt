pub mod Lattice
pub mod Grids
pub mod Rows
