-- The chain's promise leaves nothing free: two calls that keep it for the same arguments hand back the same answer and the same work, and a call
-- that stops before the end does not keep it. Assumes nothing.
use Rattle.std.proofs.Math.Path.{◌≡◌, sym, ap, ap₂}
use Rattle.std.proofs.Common.{subst, ◌∙◌, arith}
use Rattle.std.proofs.Math.Option.{none, some}
use Rattle.std.specs.Prelude.{List, ◌++◌, length, replicate}
use Prim.Native.Nat.{ℕ, ◌-◌}
use Rattle.expr.specs.Outcome.{Outcome, refused, accepted}
use Rattle.expr.specs.OutcomeLaws.{same_answer}
use Rattle.expr.specs.Expr.{Expr, encode, nodes}
use Rattle.expr.specs.OptionalLaws.{only_one}
use Rattle.rewriting.specs.AtomSimplifier.{first_site, first_rewrite}
use Rattle.rewriting.specs.Chain.{last_of}
use Rattle.rewriting.specs.ChainLaws.{listed_ends, listed_unique, no_first_site}
use Rattle.rewriting.specs.EndLaws.{Ends}
use Rattle.atom_simplifier.specs.Chained.{Chained, ChainIs, ChainGives}

module _ (w : ℕ) (widths : List ℕ) (t : Expr) (a b : List ℕ) (n m k j : ℕ) (c : Chained w widths t a n k) (d : Chained w widths t b m j) where
  same_trees : c.trees ≡ d.trees
  same_trees = listed_unique w t c.trees d.trees c.listed d.listed

  same_end : c.end ≡ d.end
  same_end = c.is_last ∙ ap (last_of t) same_trees ∙ sym d.is_last

  same_nodes : n ≡ m
  same_nodes = c.nodes_is ∙ ap nodes same_end ∙ sym d.nodes_is

  same_count : k ≡ j
  same_count = omega (arith, c.count_is, d.count_is, ap length same_trees)

  same_work : length a ≡ length b → a ≡ b
  same_work e =
      c.words ∙ ap₂ (λ (u : Expr) (l : ℕ). encode u ++ replicate (l - length (encode u)) 0) same_end e ∙ sym d.words

module _ (w : ℕ) (widths before a b : List ℕ) (x y : Outcome (ℕ × ℕ)) where
  same_hand_back : (o : Outcome Expr) → ChainIs o w widths before a x → ChainIs o w widths before b y → (x ≡ y) × (a ≡ b)
  unfolding ChainIs
  same_hand_back (refused r) p q = (p.0 ∙ sym q.0, p.1 ∙ sym q.1)
  same_hand_back (accepted t) (n, k, x-is, long, c) (m, j, y-is, also-long, d) =
      let same : ◌≡◌ {A = ℕ × ℕ} (n, k) (m, j) = ap₂ (λ (u v : ℕ). (u, v)) (same_nodes w widths t a b n m k j c d) (same_count w widths t a b n m k j c d) in
      (x-is ∙ ap accepted same ∙ sym y-is, same_work w widths t a b n m k j c d (long ∙ sym also-long))

  -- whatever keeps the promise answers the same and leaves the same words
  pub chain_unique : (o : Outcome Expr) → ChainGives o w widths before a x → ChainGives o w widths before b y → (x ≡ y) × (a ≡ b)
  chain_unique o g h = same_hand_back o g.is h.is

module _ (w : ℕ) where
  none_left : {t u : Expr} → Ends w t u 0 → first_rewrite w t ≡ none
  none_left (Ends.done e) = e

  none_left_after : {t s u : Expr} → Ends w t u 1 → first_rewrite w t ≡ some s → first_rewrite w s ≡ none
  none_left_after (Ends.more {t} e r) f = subst (λ (x : Expr). first_rewrite w x ≡ none) (only_one (first_rewrite w t) e f) (none_left r)

  module _ (widths before after : List ℕ) (t : Expr) (n : ℕ) where
    -- the rewrites that are answered, each at the first site, lead to a tree without a site
    pub all_made : (k : ℕ) → ChainGives (accepted t) w widths before after (accepted (n, k)) → (u : Expr) × Ends w t u k
    unfolding ChainIs
    all_made k g =
        let (m, j, same, long, c) = g.is in
        let count : k ≡ j = ap (λ (p : ℕ × ℕ). p.1) (same_answer same) in
        (last_of t c.trees, subst (Ends w t (last_of t c.trees)) (omega (arith, c.count_is, count)) (listed_ends w t c.trees c.listed))

    -- 0 rewrites are answered only where the tree has no site
    pub none_made : ChainGives (accepted t) w widths before after (accepted (n, 0)) → first_site w t ≡ none
    none_made g = no_first_site w t (none_left (all_made 0 g).1)

    -- 1 rewrite only where the tree after it has none
    pub one_made : ChainGives (accepted t) w widths before after (accepted (n, 1)) → (u : Expr) → first_rewrite w t ≡ some u → first_site w u ≡ none
    one_made g u e = no_first_site w u (none_left_after (all_made 1 g).1 e)
