pub mod ReadSection
pub mod Block
pub mod Lending
pub mod LentValues
pub mod ReadSections
pub mod UninitBlock
pub mod Nullable
