pub mod Ranks
pub mod Made
pub mod Holding
pub mod MadeLaws
pub mod PlaceLaws
