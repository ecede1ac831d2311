pub mod Rows
pub mod Sorting
pub mod Choices
pub mod OneText
pub mod SomeLines
pub mod SomeTokens
pub mod SomeQuery
