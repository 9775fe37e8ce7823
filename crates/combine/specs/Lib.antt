pub mod Combined
pub mod Meanings
pub mod Questions
pub mod Laws
