-- The lasting calls alone: what losses and repairs do not change.
pub mod Lossless
pub mod Unlost
