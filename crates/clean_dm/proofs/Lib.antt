mod CertificateParts
mod CheckingLemmas
mod DanglingSteps
mod FirstKey
mod KeptLoops
pub mod KeptRows
pub mod Largest
mod LoneRows
pub mod OneCleaning
mod ReferenceLemmas
mod RepeatedSteps
mod RowSetLemmas
pub mod RowsLeft
pub mod SomeCleaning
mod TurnLemmas
