pub mod Names
pub mod Leaving
pub mod Taking
pub mod Steady
