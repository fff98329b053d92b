-- Where the fractions of values lie: their part of the rule, and what each step makes of it
pub mod FractionsAtHome
pub mod BankInvariant
pub mod LastFractions
pub mod PledgesInvariant
pub mod FractionSteps
