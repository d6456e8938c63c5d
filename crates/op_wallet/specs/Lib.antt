pub mod Answers
pub mod Histories
pub mod Planned
pub mod Wallets
