mod Pieces
pub mod Quotes
