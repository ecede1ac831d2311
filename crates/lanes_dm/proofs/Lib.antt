pub mod Masks
pub mod Searches
pub mod Sets
pub mod Tables
