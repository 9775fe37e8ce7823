pub mod Sums
pub mod Bitwise
pub mod Parities
pub mod Moves
pub mod Counts
pub mod Parts
