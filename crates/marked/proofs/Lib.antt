pub mod MarkedLaws
