pub mod Body
pub mod Readers
pub mod Slots
