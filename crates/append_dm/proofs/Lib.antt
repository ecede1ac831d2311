pub mod AppendedRows
mod SameNodes
mod Staying
mod SameLists
mod OneRow
pub mod Enlarging
