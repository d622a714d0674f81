pub mod ParityLaws
pub mod CheckRecordLaws
pub mod FollowLaws
pub mod ExchangeLaws
pub mod WeighedLaws
pub mod RebuildingLaws
pub mod ParitySums
