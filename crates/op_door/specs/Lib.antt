pub mod Calls
pub mod Door
pub mod Memory
