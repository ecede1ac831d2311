pub mod Part
pub mod Verdict
pub mod Reading
pub mod Exits
