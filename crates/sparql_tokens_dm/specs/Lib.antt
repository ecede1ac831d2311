pub mod Characters
pub mod Tokens
pub mod Scanning
pub mod Views
