pub mod Built
pub mod Program
pub mod Session
pub mod Stood
pub mod Turn
pub mod World
