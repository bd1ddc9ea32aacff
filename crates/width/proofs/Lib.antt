pub mod CheckLaws
pub mod NodeLaws
