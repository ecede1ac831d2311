pub mod AnyLemmas
pub mod ElementsLemmas
pub mod ElementsTests
pub mod MembershipLemmas
pub mod OrderLemmas
pub mod PlacesLemmas
pub mod PositionLists
