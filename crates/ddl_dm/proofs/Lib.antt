pub mod Altering
pub mod BackSchema
pub mod BackTokens
pub mod Growth
pub mod OneAnswer
pub mod SchemaLaws
pub mod SomeAnswer
pub mod Writing
