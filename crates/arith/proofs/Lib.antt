pub mod MaskLaws
pub mod SignLaws
