pub mod Elements
pub mod InOrder
pub mod Membership
pub mod Places
