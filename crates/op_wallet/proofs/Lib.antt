pub mod Answering
pub mod Based
pub mod Histories
pub mod Taking
pub mod Words
