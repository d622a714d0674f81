-- The ledger: what makes it valid, which calls it grants, the states of its units, and its lists after a call.
pub mod Valid
pub mod Granted
pub mod States
pub mod Dealt
pub mod Seek
pub mod Changed
pub mod Power
pub mod Split
pub mod Touched
pub mod Grown
pub mod Shrunk
