-- What the proofs of functions in the larger crates hand to `search` beside their own laws: of the logic's `needs` only what is used here, so without its lemmas on
-- arrays, signed numbers and floats. Assumes nothing.
use Rattle.std.proofs.Common.{le_refl, arith, lit<, lit≤, length-set, Fits-lit}
use borrow.Author.Rules.{scaled_Fits, Below-set}

pub ruleset basics = (lit<, lit≤, le_refl, length-set, Fits-lit, scaled_Fits, Below-set, arith)
