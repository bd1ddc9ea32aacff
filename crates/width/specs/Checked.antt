-- A supported width, and words that are a tree at one: what calls check before they answer. Definitions only.
use Rattle.std.specs.Prelude.{List, ℕ, if◌then◌else◌}
use Rattle.expr.specs.Refusals.{refusal}
use Rattle.expr.specs.Outcome.{Outcome, refused, accepted}
use Rattle.expr.specs.Expr.{Expr}
use Rattle.expr.specs.Parse.{parse}
use Rattle.width.specs.Width.{supported}

-- the width, or refusal 1
unfoldable pub width_of_call : ℕ → Outcome ℕ
width_of_call w = if supported w then accepted w else refused (refusal 1)

-- the tree that the words are at that width: 1, then 2 to 7
unfoldable pub checked : ℕ → List ℕ → Outcome Expr
checked w ws = if supported w then parse ws else refused (refusal 1)
