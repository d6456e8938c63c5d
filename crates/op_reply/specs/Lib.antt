pub mod Fields
pub mod Parts
pub mod Printable
pub mod Said
pub mod Values
