pub mod Characters
pub mod Tokens
pub mod Scanning
pub mod Kinds
pub mod Views
pub mod Answer
