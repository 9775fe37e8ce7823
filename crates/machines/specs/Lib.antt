pub mod Times
pub mod Meanings
pub mod Growth
