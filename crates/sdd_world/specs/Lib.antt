pub mod Place
pub mod Closing
pub mod Shown
