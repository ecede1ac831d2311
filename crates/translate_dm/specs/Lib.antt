pub mod Steps
pub mod Translation
