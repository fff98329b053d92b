pub mod Steps
pub mod GuardOpened
pub mod SmallSpaces
