pub mod Memory
pub mod Posted
