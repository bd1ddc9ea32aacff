pub mod ReadLaws
pub mod PutLaws
