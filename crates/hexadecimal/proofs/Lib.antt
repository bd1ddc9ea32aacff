pub mod NumberLaws
pub mod OperandLaws
pub mod LoopLaws
