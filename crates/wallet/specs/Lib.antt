pub mod Edges
pub mod Words
