-- Nodes that are read and written one after the other. Assumes nothing.
use mathlib.Core.Path.{◌≡◌, refl, sym, ap, ap₂, subst, ◌∙◌}
use mathlib.Core.Bool.{Bool, true, ◌&&◌}
use mathlib.Core.List.{List, [], ◌∷◌, ◌++◌}
use Prim.Native.Nat.{ℕ, suc, ◌+◌, ◌-◌, ◌*◌, ◌/◌, ◌≤◌, ◌<◌, min}
use native.Mathlib.Omega.{arith}
use lib.ListN.{length, take, drop, set, length-drop}
use lib.Seq.{take-add, length-take-le}
use borrow.Rule.Slice.PartMut.{put_mid}
use Rattle.expr.specs.Parts.{tail, part, Laid}
use Rattle.expr.specs.TailLaws.{tail_drop}
use Rattle.expr.specs.Lent.{over}
use Rattle.expr.specs.LentLaws.{laid_on}
use Rattle.hexadecimal.specs.Hex.{all_digits}
use Rattle.hexadecimal.specs.HexLaws.{all_append, number_whole}
use Rattle.hexadecimal.specs.Nodes.{nodes_text, words_of}
use Rattle.hexadecimal.specs.NodesLaws.{length_nodes, length_words, nodes_last, words_last}
use Rattle.hexadecimal.specs.declared.Parsed.{Parsed}
use Rattle.hexadecimal.proofs.NumberLaws.{parsed}

-- ---- `read_node`

module _ (s : List ℕ) (kind operand : Parsed) (e : kind ≡ parsed (part 0 2 s)) (f : operand ≡ parsed (part 2 18 s)) where
  pub node_good : (kind.good && operand.good) ≡ all_digits (take 18 s)
  node_good =
      ap₂ (λ (k o : Parsed). k.good && o.good) e f
      ∙ sym (all_append (take 2 s) (take 16 (drop 2 s)))
      ∙ ap all_digits (sym (take-add 2 16 s))

  pub node_read : 18 ≤ length s → (before : List ℕ) → 2 ≤ length before → Laid before (set (set before 0 kind.value) 1 operand.value) (words_of 1 s)
  unfolding words_of
  node_read h before l = record {
    is =
        laid before l
        ∙ ap₂ (λ (k o : ℕ). k ∷ o ∷ drop 2 before)
        (ap (λ (p : Parsed). p.value) e ∙ number_whole (take 2 s) (omega (arith, length-take-le 2 s (omega arith))))
        (ap (λ (p : Parsed). p.value) f ∙ number_whole (take 16 (drop 2 s)) (omega (arith, length-take-le 16 (drop 2 s) (omega (arith, length-drop 2 s)))));
  }
    where
      laid : (ws : List ℕ) → 2 ≤ length ws → set (set ws 0 kind.value) 1 operand.value ≡ kind.value ∷ operand.value ∷ drop 2 ws
      laid [] m = absurd (omega arith)
      laid (x ∷ []) m = absurd (omega arith)
      laid (x ∷ y ∷ ws) m = refl

-- ---- `read_nodes`

-- after i turns the words of i nodes are written
pub record Filling (s before after : List ℕ) (good : Bool) (i : ℕ) : Type 0 where
  pub laid : Laid before after (words_of i s)
  pub good_is : good ≡ all_digits (take (18 * i) s)

pub none_filled : (s before : List ℕ) → Filling s before before true 0
unfolding words_of all_digits
none_filled s before = record { laid = record { is = refl }; good_is = refl }

module _ (s before after : List ℕ) (good : Bool) (i : ℕ) (f : Filling s before after good i) where
  module _ (count : ℕ) (e : i ≡ count) where
    pub all_good : good ≡ all_digits (take (18 * count) s)
    all_good = f.good_is ∙ ap (λ (j : ℕ). all_digits (take (18 * j) s)) e

    pub all_filled : after ≡ over (words_of count s) before
    all_filled = f.laid.is ∙ ap (λ (j : ℕ). over (words_of j s) before) e

  module _ (h : i < min (length s / 18) (length before / 2)) where
    pub one_filled : (right : Bool) → right ≡ all_digits (take 18 (tail (18 * i) s)) → (rest : List ℕ) → Laid (tail (2 * i) after) rest (words_of 1 (tail (18 * i) s))
        → Filling s before (put_mid (2 * i) (length after - 2 * i) after rest) (good && right) (i + 1)
    one_filled right g rest l =
        let t : tail (18 * i) s ≡ drop (18 * i) s = tail_drop (18 * i) s in
        let n : i + 1 ≡ suc i = omega arith in
        let w : words_of i s ++ words_of 1 (tail (18 * i) s) ≡ words_of (i + 1) s = ap (λ (v : List ℕ). words_of i s ++ words_of 1 v) t ∙ sym (words_last i s) ∙ ap (λ (j : ℕ). words_of j s) (sym n) in
        let m = subst (Laid before (put_mid (2 * i) (length after - 2 * i) after rest)) w (laid_on before after (words_of i s) f.laid (2 * i) (sym (length_words i s)) rest (words_of 1 (tail (18 * i) s)) l) in
        record {
          laid = m;
          good_is =
              ap₂ ◌&&◌ f.good_is (g ∙ ap (λ (v : List ℕ). all_digits (take 18 v)) t)
              ∙ sym (all_append (take (18 * i) s) (take 18 (drop (18 * i) s)))
              ∙ ap all_digits (sym (take-add (18 * i) 18 s) ∙ ap (λ (j : ℕ). take j s) (let k : 18 * i + 18 ≡ 18 * (i + 1) = omega arith in k));
        }

pub ruleset filling = (none_filled, all_good, all_filled)

-- ---- `put_nodes`

-- after i turns the digits of i nodes are written
pub record Writing (ws before after : List ℕ) (i : ℕ) : Type 0 where
  pub laid : Laid before after (nodes_text i ws)

pub none_written : (ws before : List ℕ) → Writing ws before before 0
unfolding nodes_text
none_written ws before = record { laid = record { is = refl } }

module _ (ws before after : List ℕ) (i : ℕ) (f : Writing ws before after i) where
  pub all_written : (count : ℕ) → i ≡ count → after ≡ over (nodes_text count ws) before
  all_written count e = f.laid.is ∙ ap (λ (j : ℕ). over (nodes_text j ws) before) e

  module _ (h : i < min (length ws / 2) (length before / 18)) where
    pub one_written : (rest : List ℕ) → Laid (tail (18 * i) after) rest (nodes_text 1 (tail (2 * i) ws)) → Writing ws before (put_mid (18 * i) (length after - 18 * i) after rest) (i + 1)
    one_written rest l =
        let n : i + 1 ≡ suc i = omega arith in
        let w : nodes_text i ws ++ nodes_text 1 (tail (2 * i) ws) ≡ nodes_text (i + 1) ws = ap (λ (v : List ℕ). nodes_text i ws ++ nodes_text 1 v) (tail_drop (2 * i) ws) ∙ sym (nodes_last i ws) ∙ ap (λ (j : ℕ). nodes_text j ws) (sym n) in
        let m = subst (Laid before (put_mid (18 * i) (length after - 18 * i) after rest)) w (laid_on before after (nodes_text i ws) f.laid (18 * i) (sym (length_nodes i ws)) rest (nodes_text 1 (tail (2 * i) ws)) l) in
        record {
          laid = m;
        }

pub ruleset writing = (none_written, all_written, one_written)
