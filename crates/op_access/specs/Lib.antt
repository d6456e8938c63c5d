pub mod Proof
pub mod Rules
