pub mod NodeLaws
pub mod CallLaws
