pub mod Order
pub mod Lists
pub mod Found
pub mod Laws
pub mod Slots
