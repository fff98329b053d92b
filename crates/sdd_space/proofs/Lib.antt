pub mod SameOwner
pub mod CellOwners
pub mod Composed
pub mod PtrShown
