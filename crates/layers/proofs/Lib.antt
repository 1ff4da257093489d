pub mod Places
pub mod Withholding
pub mod Lookups
pub mod Setting
pub mod Rivals
pub mod Options
