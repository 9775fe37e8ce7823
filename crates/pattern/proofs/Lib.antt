pub mod Spans
pub mod Sets
