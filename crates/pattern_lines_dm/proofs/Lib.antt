pub mod Sets
pub mod Rows
pub mod OneText
pub mod Candidates
pub mod SomeLines
pub mod KeptLines
