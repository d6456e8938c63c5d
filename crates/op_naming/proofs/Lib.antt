pub mod Adding
pub mod Lists
pub mod NamesNext
pub mod Numbers
pub mod Texts
