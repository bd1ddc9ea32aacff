-- Document 01's chain: the list of trees that an input and a width fix. Definitions only.
use Rattle.std.specs.Prelude.{◌≡◌, List, [], ◌∷◌, ℕ, zero, suc, ◌+◌, ◌*◌}
use Rattle.std.proofs.Math.Option.{none, some}
use Rattle.expr.specs.Expr.{Expr, nodes}
use Rattle.expr.specs.Optional.{map, ◌otherwise◌}
use Rattle.rewriting.specs.AtomSimplifier.{first_rewrite}
use Rattle.rewriting.specs.Measures.{D}

-- the list of trees from t on at width w: t alone where t has no site; else t, and then the list of the tree after the rewrite at its first
-- site
pub data Listed (w : ℕ) : Expr → List Expr → Type 0 where
  done : {t : Expr} → first_rewrite w t ≡ none → Listed w t (t ∷ [])
  more : {t u : Expr} {trees : List Expr} → first_rewrite w t ≡ some u → Listed w u trees → Listed w t (t ∷ trees)

-- the last tree of a list, document 01's end tree where it is the list of trees from t on; t where the list is empty
unfoldable pub last_of : Expr → List Expr → Expr
last_of t [] = t
last_of t (u ∷ trees) = last_of u trees

-- t, and the trees that follow it in the list, but no more than so many of them
unfoldable pub trees_from : ℕ → ℕ → Expr → List Expr
trees_from zero w t = t ∷ []
trees_from (suc k) w t = t ∷ (map (trees_from k w) (first_rewrite w t) otherwise [])

-- the list from t on as a function: no list has more than n + 2 × D trees, and `trees_listed` of ChainLaws says that this is the list
unfoldable pub trees_of : ℕ → Expr → List Expr
trees_of w t = trees_from (nodes t + 2 * D t) w t
