mod Runs
pub mod Meanings
mod Tellings
