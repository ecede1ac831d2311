pub mod Texts
pub mod AcceptedDrafts
pub mod GeneratedRows
pub mod GeneratedKeys
