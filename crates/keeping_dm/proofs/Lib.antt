pub mod DifferenceLemmas
pub mod ImageLemmas
pub mod KeepLemmas
pub mod QueryLemmas
pub mod TermLemmas
pub mod TupleLemmas
