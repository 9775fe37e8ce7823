pub mod Sparsity
pub mod Columns
