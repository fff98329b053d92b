pub mod Bags
pub mod Chains
pub mod History
pub mod Laws
pub mod Sizes
pub mod Table
pub mod Views
