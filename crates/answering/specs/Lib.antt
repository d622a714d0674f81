pub mod Command
pub mod CommandLaws
pub mod Said
pub mod Places
pub mod Buffers
pub mod ByLedger
pub mod Example
