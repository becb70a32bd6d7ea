pub mod ClaimLaws
pub mod ListLaws
pub mod LoadLaws
pub mod PartLaws
pub mod StayLaws
pub mod StreamLaws
