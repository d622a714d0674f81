pub mod Following
pub mod Written
pub mod Lost
pub mod Homes
pub mod Granted
