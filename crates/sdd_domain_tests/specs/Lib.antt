pub mod Slots
pub mod Held
pub mod Hands
pub mod Four
pub mod FewCells
pub mod FewCollectors
