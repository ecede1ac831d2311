pub mod ByteSet
pub mod Flags
pub mod Tables
