pub mod Rows
pub mod Found
pub mod Listing
