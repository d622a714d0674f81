-- Each call on a picture: it answers as the ledger does and leaves the picture of the ledger after the call.
pub mod Simulation
pub mod OneList
pub mod Opened
pub mod Teach
pub mod Correct
pub mod Erase
pub mod Read
pub mod ReadInPlace
pub mod List
pub mod UnitOut
pub mod Repair
pub mod Resized
pub mod Grow
pub mod Shrink
pub mod Raise
