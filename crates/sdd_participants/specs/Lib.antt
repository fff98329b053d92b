pub mod Waiting
pub mod Bags
pub mod PlaceStates
pub mod EpochState
pub mod Tally
pub mod Slab
pub mod Jobs
pub mod Collecting
