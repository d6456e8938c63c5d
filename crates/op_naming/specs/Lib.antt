pub mod Added
pub mod Indexes
pub mod Kept
pub mod Names
pub mod Rates
