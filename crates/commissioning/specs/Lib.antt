pub mod Values
pub mod Widths
pub mod Losses
pub mod Plans
