pub mod Sample
pub mod Searched
pub mod Cases
