pub mod ExprCost
pub mod Promises
pub mod ExprCostLaws
