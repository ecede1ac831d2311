pub mod Firsts
pub mod Readers
pub mod ColumnReaders
pub mod StatementReaders
pub mod Loops
pub mod Telling
