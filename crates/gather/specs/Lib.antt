pub mod Bits
pub mod Gathered
pub mod Selections
