pub mod Models
pub mod Rows
pub mod Runs
pub mod Within
