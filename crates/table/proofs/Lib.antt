mod Nearness
mod Runs
mod Distincts
mod Walked
mod Batches
mod Stored
mod Wholes
mod Found
pub mod Told
