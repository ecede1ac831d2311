pub mod Checking
pub mod Kept
pub mod Parts
pub mod References
pub mod Removing
pub mod RowSets
pub mod Turns
pub mod Working
