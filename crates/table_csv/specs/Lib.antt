pub mod CanonicalText
pub mod Cells
pub mod Databases
pub mod Headers
pub mod Plain
pub mod Reading
pub mod TableFiles
