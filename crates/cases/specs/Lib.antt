pub mod Diagonals
pub mod DiagonalsLemmas
