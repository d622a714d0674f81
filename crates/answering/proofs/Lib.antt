pub mod Answering
pub mod ByLedger
pub mod Example
pub mod Listing
pub mod OwnPlaces
pub mod Turns
pub mod TypedLines
pub mod Unlaid
