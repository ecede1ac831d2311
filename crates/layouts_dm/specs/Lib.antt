pub mod Layouts
pub mod LayoutTables
pub mod Outcomes
pub mod Rules
