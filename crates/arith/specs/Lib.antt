pub mod ChoiceLaws
pub mod Bv
pub mod Arith
pub mod TableLaws
pub mod BvLaws
pub mod SumLaws
pub mod ArithLaws
pub mod NeedLaws
