pub mod Devices
pub mod Lines
pub mod Plays
pub mod Scripts
pub mod Words
