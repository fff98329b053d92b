pub mod Stays
pub mod Value
pub mod Station
pub mod LeavesTime
pub mod Cargo
