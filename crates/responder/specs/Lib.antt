pub mod Inquiries
pub mod Plans
pub mod Actions
pub mod Steps
pub mod Models
