pub mod ColumnLemmas
pub mod FirstLemmas
pub mod NeverNull
pub mod NodeLemmas
pub mod RisingLemmas
pub mod ToldLemmas
pub mod TreeLemmas
