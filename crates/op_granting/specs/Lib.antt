pub mod Kinds
pub mod Models
pub mod Calls
pub mod Drawn
pub mod Spending
pub mod Keeping
pub mod Access
