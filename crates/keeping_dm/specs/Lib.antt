pub mod Guards
pub mod Keeping
pub mod LawfulValues
