pub mod Appended
pub mod Batches
