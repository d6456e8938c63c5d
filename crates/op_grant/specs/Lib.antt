pub mod Indexed
pub mod Limits
pub mod Places
pub mod Rows
pub mod Runs
pub mod Tokens
pub mod Value
