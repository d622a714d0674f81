pub mod Lent
pub mod Nibbles
