pub mod Step
pub mod Streams
pub mod Laws
