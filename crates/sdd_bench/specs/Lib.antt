pub mod Leaves
pub mod Names
