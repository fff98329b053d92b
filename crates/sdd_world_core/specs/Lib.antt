pub mod WorldCore
pub mod Lending
pub mod Closing
