pub mod Cut
pub mod Told
pub mod Rows
pub mod Classes
pub mod Links
pub mod TableLaw
pub mod ClassTriples
