pub mod Rows
pub mod Hosts
pub mod Tables
pub mod Making
pub mod Lawfulness
pub mod Finding
