pub mod SlotsKept
pub mod CellsKept
pub mod Contents
