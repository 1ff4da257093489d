pub mod Counting
pub mod Tracing
pub mod Laws
