pub mod Balances
pub mod Indexed
pub mod Pieces
pub mod Runs
pub mod Sound
