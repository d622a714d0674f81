pub mod Ranks
pub mod Records
pub mod RankLoop
