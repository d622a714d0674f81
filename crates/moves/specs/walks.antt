-- Laws for proofs that follow the compiled code by hand: how a function is called, how a loop counts, how a slice is lent, and the way from the code to the
-- contract. They say nothing of the crate, and hold in every model of the machine.
pub mod Walking
pub mod ByValue
pub mod Counted
pub mod LentShared
