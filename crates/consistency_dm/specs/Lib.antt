pub mod Conflicts
pub mod Interpretations
pub mod Ranges
