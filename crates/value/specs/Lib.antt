pub mod Value
pub mod Promises
pub mod ValueLaws
