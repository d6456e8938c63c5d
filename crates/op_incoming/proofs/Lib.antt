pub mod Dues
pub mod Kept
pub mod ModelLemmas
pub mod Places
pub mod Sums
mod WorkedRows
