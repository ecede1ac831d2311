pub mod PlainTables
pub mod PlainLimits
pub mod FormedQueries
pub mod Counts
pub mod OneText
