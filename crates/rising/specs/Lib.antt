pub mod Order
pub mod Lists
pub mod Slots
pub mod Laws
