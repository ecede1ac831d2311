pub mod Attributes
pub mod Causes
pub mod Certain
pub mod Checking
pub mod Nodes
pub mod Tuples
