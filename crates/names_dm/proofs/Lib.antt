pub mod Ascii
mod Cuts
mod Escapes
pub mod Keys
mod Lists
mod Marks
pub mod NamesApart
pub mod Parts
mod Read
pub mod ReadBack
pub mod RowLabels
pub mod SafeForms
mod TextLists
pub mod Told
pub mod Utf8
pub mod VariableLaws
pub mod Words
pub mod Yielded
