-- Lists of base calls and further calls: what each further call owes on a picture, and what follows of every list.
pub mod Plan
pub mod Agrees
pub mod Planned
pub mod Agreed
pub mod Taken
