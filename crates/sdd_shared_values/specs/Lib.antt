pub mod ValueFractions
pub mod CarriedFractions
pub mod SharedValues
pub mod Memory
pub mod GhostValues
pub mod ReadFractions
pub mod Bank
pub mod Deposits
