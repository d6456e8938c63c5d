pub mod Balances
pub mod Ledgers
pub mod Money
pub mod Taking
