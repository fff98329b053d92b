pub mod Closing
pub mod Pointers
pub mod Sweeps
pub mod AllGo
pub mod FilledSlots
