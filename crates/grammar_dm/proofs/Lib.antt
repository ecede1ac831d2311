pub mod Fronts
pub mod Laws
pub mod Choices
pub mod Equations
pub mod Separated
pub mod Nesting
pub mod Walks
