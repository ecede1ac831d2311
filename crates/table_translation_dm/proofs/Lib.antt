pub mod NamedLemmas
pub mod PartLemmas
pub mod RelationLemmas
