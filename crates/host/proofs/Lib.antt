pub mod Keys
pub mod Keeping
pub mod Calls
pub mod Makings
pub mod FindingRows
