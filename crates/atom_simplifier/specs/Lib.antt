pub mod Calls
pub mod Answers
pub mod Promises
pub mod PairsLaws
pub mod Chained
pub mod UniqueLaws
