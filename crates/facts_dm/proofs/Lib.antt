mod Marks
pub mod NamingInstance
mod Words
