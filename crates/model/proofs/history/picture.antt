-- The picture of a ledger: its bytes, that it is sound, and what the calls read, find lost and write in it.
pub mod Records
pub mod Picture
pub mod Seen
pub mod RecordsSeen
pub mod Listed
pub mod Losses
pub mod Rebuilt
pub mod Sound
pub mod Writing
