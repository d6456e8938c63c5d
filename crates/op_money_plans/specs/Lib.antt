pub mod Requests
pub mod Transfers
