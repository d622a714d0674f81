pub mod Keys
pub mod Pieces
pub mod Survey
pub mod SurveyLaws
pub mod KeyLists
pub mod Handed
pub mod HandedLaws
