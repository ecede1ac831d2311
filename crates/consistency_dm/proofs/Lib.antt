mod AskedRanges
pub mod FirstConflicts
pub mod Interpreted
mod KeptOut
mod Texts
