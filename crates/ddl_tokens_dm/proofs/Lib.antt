pub mod Scans
pub mod Lexing
pub mod Unique
