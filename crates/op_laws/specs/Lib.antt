pub mod Keep
pub mod Placed
pub mod Received
