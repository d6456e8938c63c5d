pub mod Floors
pub mod FreshRows
pub mod Holding
pub mod Idle
pub mod Kept
pub mod ModelLemmas
pub mod NextRows
pub mod Quotes
pub mod Rounds
pub mod Rows
pub mod RunLemmas
pub mod Sending
mod WorkedRows
