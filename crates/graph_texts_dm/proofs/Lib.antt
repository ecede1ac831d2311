pub mod Iris
pub mod Triples
pub mod Texts
