pub mod Calls
pub mod Answers
pub mod Places
pub mod PlacesLaws
pub mod Promises
