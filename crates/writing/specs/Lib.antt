pub mod Following
pub mod Homes
pub mod Places
