pub mod NewSlab
pub mod AgedBags
pub mod EmptyPlaces
pub mod Adoptions
pub mod JobsAtPlaces
pub mod Places
pub mod ShownEntries
pub mod Collecting
mod CountedTally
