pub mod Domain
pub mod Space
pub mod Local
pub mod Receipt
