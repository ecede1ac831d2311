pub mod Exits
pub mod Loops
pub mod Readers
pub mod Depths
pub mod Telling
pub mod OneAnswer
pub mod Named
pub mod Lawful
