-- Cells: the part of the rule for them, and what each step on one makes
pub mod CellWordSteps
pub mod CellsInvariant
pub mod CellSteps
