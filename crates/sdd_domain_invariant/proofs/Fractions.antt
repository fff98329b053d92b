-- Where the fractions of values lie, after each step
pub mod FractionHomes
pub mod SlotFractions
pub mod WholeFractions
pub mod FractionsInvariant
pub mod LastFractions
pub mod FractionSteps
pub mod FractionNumbers
