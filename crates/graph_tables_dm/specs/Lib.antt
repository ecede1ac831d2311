pub mod Cells
pub mod Columns
pub mod Listed
pub mod TableReadings
