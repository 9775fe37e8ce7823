pub mod Seen
pub mod Meanings
pub mod Nonlocals
pub mod Counts
