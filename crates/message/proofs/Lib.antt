pub mod Framing
pub mod Places
pub mod Encoding
pub mod Parts
pub mod Trips
pub mod Layouts
