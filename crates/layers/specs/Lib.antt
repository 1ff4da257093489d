pub mod Lists
pub mod Models
pub mod Holding
pub mod Sets
pub mod Calls
pub mod Clearing
pub mod Lawfulness
