pub mod Meaning
pub mod Building
pub mod Schema
pub mod Canonical
