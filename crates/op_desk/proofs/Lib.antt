mod Assets
pub mod Batches
pub mod Closing
pub mod Lists
mod Payloads
pub mod Recovering
pub mod Unique
pub mod Rounds
