-- What an accepted answer stands for: a candidate's tag and nodes, or how many candidates there are. Definitions only.
use Rattle.std.specs.Prelude.{ℕ, Result}
use Rattle.expr.specs.declared.refusal.Refusal.{Refusal}
use Rattle.expr.specs.Outcome.{Outcome, mapped}
use Rattle.expr.specs.Answers.{outcome}
use Rattle.atom_identity_rewrite.specs.Calls.{Asked, candidate, no_more}
use Rattle.atom_identity_rewrite.specs.declared.Tag.{Tag}
use Rattle.atom_identity_rewrite.specs.declared.Tag.TheVariants as tag
use Rattle.atom_identity_rewrite.specs.declared.Found.{Found}
use Rattle.atom_identity_rewrite.specs.declared.Found.TheVariants as found

-- a tag's number
abbrev pub tag_number : Tag → ℕ
tag_number tag.Absorb = 1
tag_number tag.OrMinusAnd = 2
tag_number tag.OrMinusNot = 3
tag_number tag.PlusOne = 4
tag_number tag.FlatOrNot = 5
tag_number tag.LaxAnd = 6
tag_number tag.LaxXor = 7

-- a tag and a number of nodes, or a number of candidates
abbrev pub asked_of : Found → Asked (ℕ × ℕ)
asked_of (found.Candidate t nodes) = candidate (tag_number t, nodes)
asked_of (found.NoMore count) = no_more count

abbrev pub candidate_outcome : Result Found Refusal → Outcome (Asked (ℕ × ℕ))
candidate_outcome r = mapped asked_of (outcome r)
