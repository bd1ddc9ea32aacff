-- The promise of the chain, whole: the list of trees, its end, and what is handed back. Definitions only.
use Rattle.std.specs.Prelude.{◌≡◌, true, List, ◌++◌, ℕ, ◌+◌, ◌*◌, ◌-◌, ◌≤◌, length, replicate}
use Rattle.std.proofs.Math.Option.{none}
use Rattle.expr.specs.Outcome.{Outcome, refused, accepted}
use Rattle.expr.specs.Expr.{Expr, encode, nodes, depth}
use Rattle.value.specs.Value.{value, is_lent, one_width_of}
use Rattle.rewriting.specs.AtomSimplifier.{first_site}
use Rattle.rewriting.specs.Measures.{D, occurrences}
use Rattle.rewriting.specs.Chain.{Listed, last_of}

-- for the tree t, which is of one width at width w and the width list, the chain has answered n nodes and `count` rewrites and
-- left the words `after` in the work
pub record Chained (w : ℕ) (widths : List ℕ) (t : Expr) (after : List ℕ) (n count : ℕ) : Type 0 where
  -- document 01's list of trees; its end tree is the last, and the rewrites are one fewer than the trees
  pub trees : List Expr
  pub listed : Listed w t trees
  pub end : Expr
  pub is_last : end ≡ last_of t trees
  pub nodes_is : n ≡ nodes end
  pub count_is : count + 1 ≡ length trees
  -- the work: the words of the end tree, and zeros behind them to the end
  pub words : after ≡ encode end ++ replicate (length after - length (encode end)) 0
  pub most : count ≤ nodes t - 1 + 2 * D t
  pub no_site : first_site w end ≡ none
  -- at every setting, which has a word for each variable of t, the value is kept; the setting has one for each of the end tree
  pub lent : (σ : List ℕ) → is_lent σ t ≡ true → is_lent σ end ≡ true
  pub same_value : (σ : List ℕ) → is_lent σ t ≡ true → value w σ end ≡ value w σ t
  -- a call on the end tree's words passes 1 to 8 again
  pub one_width : one_width_of (encode end) w widths ≡ accepted end
  pub no_more_nodes : nodes end ≤ nodes t
  pub no_deeper : depth end ≤ depth t
  pub no_new_variable : (i : ℕ) → occurrences i end ≤ occurrences i t

-- what the call gives for the tree that it starts from, or the refusal: after a refusal the work is as it was; else the work has its length,
-- and the chain is that of the tree
unfoldable pub ChainIs : Outcome Expr → ℕ → List ℕ → List ℕ → List ℕ → Outcome (ℕ × ℕ) → Type 0
ChainIs (refused r) w widths before after answer = (answer ≡ refused r) × (after ≡ before)
ChainIs (accepted t) w widths before after answer =
    (n : ℕ) × (count : ℕ) × (answer ≡ accepted (n, count)) × (length after ≡ length before) × Chained w widths t after n count

-- the same as a record, which a proof does not unfold
pub record ChainGives (admitted : Outcome Expr) (w : ℕ) (widths before after : List ℕ) (answer : Outcome (ℕ × ℕ)) : Type 0 where
  pub is : ChainIs admitted w widths before after answer
