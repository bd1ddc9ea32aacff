pub mod Width
pub mod Checked
pub mod Promises
pub mod WidthLaws
pub mod CheckedLaws
pub mod UniformLaws
