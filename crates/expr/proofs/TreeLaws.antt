-- What `check_tree` answers, from what it has found of the words. Assumes nothing.
use mathlib.Core.Path.{◌≡◌, refl, sym, ap, ◌∙◌}
use mathlib.Core.Bool.{Bool, true, false, not}
use mathlib.Core.List.{List, [], ◌∷◌}
use Prim.Native.Nat.{ℕ, ◌*◌, ◌^◌, ◌≤◌, ◌<◌}
use native.Mathlib.Omega.{arith}
use lib.ListN.{length}
use borrow.Author.Tests.{not-true, not-false}
use mir.Syntax.{w64}
use mir.Val.{Fits}
use Rattle.expr.specs.declared.refusal.Reason.{Reason}
use Rattle.expr.specs.Refusals.{refusal}
use Rattle.expr.specs.Outcome.{Outcome, refused, accepted, mapped, ◌and_then◌}
use Rattle.expr.specs.Expr.{Expr, nodes}
use Rattle.expr.specs.Parse.{word_count_ok, subtree, whole, parse}
use Rattle.expr.proofs.CheckLaws.{count, found, found_fits, rest_length}

module _ (ws : List ℕ) (b : Bool) (e : b ≡ word_count_ok (length ws)) where
  pub count_refused : not b ≡ true → refused (refusal 2) ≡ mapped nodes (parse ws)
  unfolding parse
  count_refused f = rw (sym e ∙ not-true b f)

  module _ (f : not b ≡ false) where
    parse_is : mapped nodes (subtree 64 ws and_then whole) ≡ mapped nodes (parse ws)
    unfolding parse
    parse_is = rw (sym e ∙ not-false b f)

    pub tree_refused : (r : Reason) → refused r ≡ mapped count (subtree 64 ws) → refused r ≡ mapped nodes (parse ws)
    tree_refused r h = go (subtree 64 ws) h ∙ parse_is
      where
        go : (o : Outcome (Expr × List ℕ)) → refused r ≡ mapped count o → refused r ≡ mapped nodes (o and_then whole)
        go (refused s) i = i
        go (accepted p) i = absurd (let z : ◌≡◌ {A = ℕ} 0 1 = cc in omega arith)

    module _ (m : ℕ) (g : accepted m ≡ mapped count (subtree 64 ws)) where
      -- what stands after the tree decides
      ends : (p : Expr × List ℕ) → subtree 64 ws ≡ accepted p → mapped nodes (whole p) ≡ mapped nodes (parse ws)
      ends p i = ap (λ (o : Outcome (Expr × List ℕ)). mapped nodes (o and_then whole)) (sym i) ∙ parse_is

      pub left_over : 2 * m < length ws → refused (refusal 7) ≡ mapped nodes (parse ws)
      left_over l = go (found 64 m ws g).answer (omega (arith, rest_length 64 m ws g)) ∙ ends (found 64 m ws g).answer (found 64 m ws g).was
        where
          go : (p : Expr × List ℕ) → 1 ≤ length p.1 → refused (refusal 7) ≡ mapped nodes (whole p)
          go (t, []) i = absurd (omega arith)
          go (t, y ∷ ys) i = refl

      pub all_read : length ws ≤ 2 * m → accepted m ≡ mapped nodes (parse ws)
      all_read l =
          ap accepted (sym (found 64 m ws g).made)
          ∙ go (found 64 m ws g).answer (omega (arith, rest_length 64 m ws g, found_fits 64 m ws g))
          ∙ ends (found 64 m ws g).answer (found 64 m ws g).was
        where
          go : (p : Expr × List ℕ) → length p.1 ≡ 0 → accepted (nodes p.0) ≡ mapped nodes (whole p)
          go (t, []) i = refl
          go (t, y ∷ ys) i = absurd (omega arith)

pub words_fit : (d m : ℕ) (ws : List ℕ) → accepted m ≡ mapped count (subtree d ws) → length ws < 2 ^ 64 → Fits w64 (2 * m)
words_fit d m ws e h = omega (arith, found_fits d m ws e)
