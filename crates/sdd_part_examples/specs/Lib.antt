pub mod CountedOwners
pub mod SlotRights
pub mod SmallSpace
