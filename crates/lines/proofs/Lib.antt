pub mod Parsing
pub mod Reading
pub mod Writing
