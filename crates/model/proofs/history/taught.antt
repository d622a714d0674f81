-- As last taught: what a ledger holds for a key, and which calls change it.
pub mod Recorded
pub mod Taught
