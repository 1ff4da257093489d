pub mod Codes
pub mod Asking
pub mod Inquiring
pub mod Opening
pub mod Sendings
pub mod Replies
pub mod Reports
pub mod Switches
