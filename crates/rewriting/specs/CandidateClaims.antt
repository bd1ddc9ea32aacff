-- What is claimed of a node's candidates: the value by the tag, and for every tag the nodes, the depth, the refusals and the variables. Definitions only.
use Rattle.std.specs.Prelude.{◌≡◌, Bool, true, false, ◌||◌, List, ℕ, ◌≤◌, ◌<◌, T, eqb}
use Rattle.std.proofs.Math.Option.{Option}
use Rattle.std.proofs.Math.ListN.{get_elem?}
use Rattle.arith.specs.Bv.{bvneg}
use Rattle.expr.specs.Outcome.{accepted}
use Rattle.expr.specs.Expr.{Expr, encode, nodes, depth}
use Rattle.expr.specs.Parse.{parse}
use Rattle.value.specs.Value.{value, is_lent, one_width_of}
use Rattle.rewriting.specs.Measures.{occurrences}
use Rattle.rewriting.specs.AtomIdentityRewrite.{Candidate, or_not_under_neg}

-- the element of that number, where the first has number 0: the kit's `get_elem?`, which is not unfolded under this name
unfoldable pub numbered : {A : Type 0} → ℕ → List A → Option A
numbered n xs = get_elem? xs n

-- the tags whose candidates have the node's value
abbrev pub keeps_value : ℕ → Bool
keeps_value n = eqb n 1 || eqb n 4 || eqb n 5

-- the tags whose candidates have the node's value where Or is the operand not under Neg, and its negation elsewhere
abbrev pub is_signed : ℕ → Bool
is_signed n = eqb n 2 || eqb n 3

-- the claims; tags 6 and 7 carry none of value
pub record Claim (w : ℕ) (node : Expr) (c : Candidate) : Type 0 where
  pub fewer : nodes c.tree < nodes node
  pub shallow : depth c.tree ≤ depth node
  -- where the node's words pass 2 to 7, the candidate's do; and likewise 1 to 8 with any width list
  pub is_tree : parse (encode node) ≡ accepted node → parse (encode c.tree) ≡ accepted c.tree
  pub one_width : (widths : List ℕ) → one_width_of (encode node) w widths ≡ accepted node → one_width_of (encode c.tree) w widths ≡ accepted c.tree
  -- a setting of the node is one of the candidate
  pub lent : (σ : List ℕ) → is_lent σ node ≡ true → is_lent σ c.tree ≡ true
  pub variables : (i : ℕ) → occurrences i c.tree ≤ occurrences i node
  pub kept : T (keeps_value c.tag) → (σ : List ℕ) → value w σ c.tree ≡ value w σ node
  pub signed_kept : T (is_signed c.tag) → T (or_not_under_neg node) → (σ : List ℕ) → value w σ c.tree ≡ value w σ node
  pub signed_negated : T (is_signed c.tag) → or_not_under_neg node ≡ false → (σ : List ℕ) → value w σ c.tree ≡ bvneg w (value w σ node)
