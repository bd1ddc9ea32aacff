pub mod Report
pub mod Steps
pub mod Promises
pub mod ReportLaws
pub mod BoundsLaws
pub mod StepsLaws
