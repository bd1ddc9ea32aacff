-- The turns of `span`. Assumes nothing.
use mathlib.Core.Path.{◌≡◌, refl, sym, ap, ◌∙◌, subst}
use mathlib.Core.Bool.{Bool, true, false, not, ◌&&◌}
use mathlib.Core.List.{List, [], ◌∷◌}
use Prim.Native.Nat.{ℕ, suc, ◌+◌, ◌-◌, ◌%◌, ◌≤◌, ◌<◌}
use native.Mathlib.Omega.{arith}
use lib.Dec.{T, leb, eqb, eqb→eq}
use lib.ListN.{length, drop, get_or, drop_of_length-le}
use lib.Seq.{drop-cons}
use borrow.Author.Tests.{not-true, not-false}
use mir.Facts.{and_yes}
use Rattle.arith.specs.ChoiceLaws.{if_yes}
use Rattle.expr.specs.declared.refusal.Reason.{Reason}
use Rattle.expr.specs.declared.Arity.{Arity}
use Rattle.expr.specs.declared.Arity.TheVariants.{Zero, One, Two}
use Rattle.expr.specs.Refusals.{refusal}
use Rattle.expr.specs.Outcome.{refused, accepted, mapped}
use Rattle.expr.specs.OutcomeLaws.{then_refused, mapped_mapped, mapped_same}
use Rattle.expr.specs.Parse.{arity_of, word_count_ok}
use Rattle.expr.specs.Span.{due_words, span_of}
use Rattle.expr.specs.SpanLaws.{due_none, due_node}
use Rattle.expr.specs.Answers.{children_of}

-- `at` words are passed, and `due` subtrees are still to come
pub record Going (ws : List ℕ) (due at : ℕ) : Type 0 where
  pub counted : T (word_count_ok (length ws))
  pub span_is : span_of ws ≡ mapped (λ m. at + m) (due_words (drop at ws) due)
  pub even : at % 2 ≡ 0
  pub few : due ≤ at + 1

whole_nodes : (n : ℕ) → T (word_count_ok n) → n % 2 ≡ 0
unfolding word_count_ok
whole_nodes n h =
    let p = and_yes (not (eqb n 0)) (leb n 1024 && eqb (n % 2) 0) h in
    eqb→eq (n % 2) 0 (and_yes (leb n 1024) (eqb (n % 2) 0) p.1).1

-- a node's two words, from place `at` on
split_at : (ws : List ℕ) (at : ℕ) → at + 2 ≤ length ws → drop at ws ≡ get_or ws at 0 ∷ get_or ws (suc at) 0 ∷ drop (at + 2) ws
split_at ws at h =
    drop-cons ws at 0 (omega arith)
    ∙ ap (λ (l : List ℕ). get_or ws at 0 ∷ l) (drop-cons ws (suc at) 0 (omega arith))
    ∙ ap (λ (n : ℕ). get_or ws at 0 ∷ get_or ws (suc at) 0 ∷ drop n ws) (let e : suc (suc at) ≡ at + 2 = omega arith in e)

due_refused : (k o : ℕ) (ws : List ℕ) (due : ℕ) {r : Reason} → arity_of k ≡ refused r → due_words (k ∷ o ∷ ws) (suc due) ≡ refused r
unfolding due_words
due_refused k o ws due e = then_refused e _

due_ended : (due : ℕ) → due_words [] (suc due) ≡ refused (refusal 6)
unfolding due_words
due_ended due = refl

-- ---- before the loop

module _ (ws : List ℕ) (b : Bool) (e : b ≡ word_count_ok (length ws)) where
  pub span_count : not b ≡ true → refused (refusal 2) ≡ span_of ws
  unfolding span_of
  span_count f = rw (sym e ∙ not-true b f)

  pub going_first : not b ≡ false → Going ws 1 0
  unfolding span_of
  going_first f =
      let t : T (word_count_ok (length ws)) = subst T (sym (not-false b f) ∙ e) tt in
      record {
        counted = t;
        span_is = if_yes (word_count_ok (length ws)) _ _ t ∙ sym (mapped_same (λ m. 0 + m) (λ m. let z : 0 + m ≡ m = omega arith in z) (due_words ws 1));
        even = refl;
        few = omega arith;
      }

few_children : (a : Arity) → children_of a ≤ 2
few_children Zero = omega arith
few_children One = omega arith
few_children Two = omega arith

-- ---- in the loop

module _ (ws : List ℕ) (due at : ℕ) (g : Going ws due at) where
  pub span_done : due ≤ 0 → accepted at ≡ span_of ws
  span_done h =
      sym (g.span_is ∙ ap (λ (n : ℕ). mapped (λ m. at + m) (due_words (drop at ws) n)) (let e : due ≡ 0 = omega arith in e)
      ∙ ap (mapped (λ m. at + m)) (due_none (drop at ws)) ∙ ap accepted (let e : at + 0 ≡ at = omega arith in e))

  module _ (pos : 0 < due) where
    stops : {r : Reason} → due_words (drop at ws) (suc (due - 1)) ≡ refused r → refused r ≡ span_of ws
    stops e = sym (g.span_is ∙ ap (λ (n : ℕ). mapped (λ m. at + m) (due_words (drop at ws) n)) (let s : due ≡ suc (due - 1) = omega arith in s) ∙ ap (mapped (λ m. at + m)) e)

    pub words_ended : length ws ≤ at → refused (refusal 6) ≡ span_of ws
    words_ended h = stops (ap (λ (l : List ℕ). due_words l (suc (due - 1))) (drop_of_length-le ws h) ∙ due_ended (due - 1))

    module _ (h : at < length ws) where
      two_words : at + 2 ≤ length ws
      two_words = omega (arith, whole_nodes (length ws) g.counted, g.even)

      pub kind_refused : (r : Reason) → refused r ≡ arity_of (get_or ws at 0) → refused r ≡ span_of ws
      kind_refused r e =
          stops (ap (λ (l : List ℕ). due_words l (suc (due - 1))) (split_at ws at two_words)
          ∙ due_refused (get_or ws at 0) (get_or ws (suc at) 0) (drop (at + 2) ws) (due - 1) (sym e))

      going_on : (n d : ℕ) → accepted n ≡ arity_of (get_or ws at 0) → d + 1 ≡ due + n → n ≤ 2 → Going ws d (at + 2)
      going_on n d f s l = record {
        counted = g.counted;
        span_is =
            g.span_is
            ∙ ap (λ (i : ℕ). mapped (λ m. at + m) (due_words (drop at ws) i)) (let s : due ≡ suc (due - 1) = omega arith in s)
            ∙ ap (λ (v : List ℕ). mapped (λ m. at + m) (due_words v (suc (due - 1)))) (split_at ws at two_words)
            ∙ ap (mapped (λ m. at + m)) (due_node (get_or ws at 0) (get_or ws (suc at) 0) (drop (at + 2) ws) (due - 1) (sym f) d (omega arith))
            ∙ mapped_mapped _ _ _ (λ m. omega arith) (due_words (drop (at + 2) ws) d);
        even = omega (arith, g.even);
        few = omega (arith, g.few);
      }

      -- after the node's own place its children are due
      module _ (a : Arity) (e : accepted (children_of a) ≡ arity_of (get_or ws at 0)) where
        pub going_next : (n : ℕ) → n ≡ children_of a → Going ws (due + n - 1) (at + 2)
        going_next n f = going_on n (due + n - 1) (ap accepted f ∙ e) (omega (arith, pos)) (omega (arith, f, few_children a))

module _ (ws : List ℕ) (due at : ℕ) (g : Going ws due at) (pos : 0 < due) (h : at < length ws) (a : Arity)
    (e : accepted (children_of a) ≡ arity_of (get_or ws at 0)) (n : ℕ) (f : n ≡ children_of a) where
  next : Going ws (due + n - 1) (at + 2)
  next = going_next ws due at g pos h a e n f

  -- after the last node of the subtree
  pub last_node : due + n - 1 ≡ 0 → accepted (at + 2) ≡ span_of ws
  last_node z = span_done ws (due + n - 1) (at + 2) next (omega (arith, z))

  -- where a node is due and no word is left
  pub none_follows : 0 < due + n - 1 → length ws - at ≤ 2 → refused (refusal 6) ≡ span_of ws
  none_follows z l = words_ended ws (due + n - 1) (at + 2) next z (omega (arith, l))
