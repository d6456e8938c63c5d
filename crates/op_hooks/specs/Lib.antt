pub mod Due
pub mod Plain
pub mod Value
