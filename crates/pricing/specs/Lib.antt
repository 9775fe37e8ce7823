pub mod Works
pub mod Counts
pub mod Columns
pub mod Meanings
pub mod Told
pub mod Telling
pub mod Growth
pub mod Laws
