pub mod Drafts
pub mod Indexed
pub mod Naming
pub mod Relations
pub mod Sameness
pub mod Schemas
pub mod Shapes
