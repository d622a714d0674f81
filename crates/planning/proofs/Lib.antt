pub mod Dealing
pub mod Strokes
