pub mod Epoch
pub mod Limits
pub mod Refused
pub mod Tag
