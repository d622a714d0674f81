pub mod Entries
pub mod Reading
pub mod Order
pub mod Form
