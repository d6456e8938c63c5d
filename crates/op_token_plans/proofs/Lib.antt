pub mod Admitting
pub mod Looking
pub mod Showing
pub mod RowsRead
pub mod Making
