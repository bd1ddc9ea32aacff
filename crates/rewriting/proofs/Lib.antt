pub mod CandidateLaws
