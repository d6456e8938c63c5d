pub mod Untried
pub mod Adding
pub mod Following
pub mod Reading
pub mod Paging
pub mod Texts
pub mod Noted
