-- Items that are out as raw, and the words of pointers, after each step on one
pub mod RawWordSteps
pub mod PointerWordSteps
pub mod RawSteps
pub mod PointerSteps
