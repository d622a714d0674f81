pub mod EntryLaws
pub mod ReadingLaws
pub mod WriteLaws
pub mod PlaceLaws
pub mod SearchLaws
pub mod IndexLaws
pub mod Example
