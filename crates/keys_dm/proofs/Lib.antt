pub mod AddingLemmas
pub mod CellOrder
pub mod DatabaseLevels
mod EntryOrder
pub mod KeyLists
mod KeyRanges
pub mod OneMatch
pub mod RowKinds
pub mod RowLevels
mod RowTests
pub mod SomeListing
mod TwinLemmas
