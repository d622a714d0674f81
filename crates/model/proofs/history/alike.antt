-- Stores that differ in the fields of records and in parity bytes alone: what the calls make of them is alike again, and so is every sound store
-- to the picture of a valid ledger.
pub mod Alike
pub mod Sound
pub mod Numbers
pub mod Written
pub mod Repaired
pub mod Raised
pub mod Dealt
pub mod LedgerOf
pub mod LedgerAlike
