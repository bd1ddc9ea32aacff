-- A candidate's words, written at the front of lent ones. Assumes nothing.
use Rattle.std.specs.Prelude.{◌≡◌, Bool, true, false, List, [], ◌∷◌, ◌++◌, ℕ, ◌+◌, ◌-◌, ◌≤◌, length}
use Rattle.std.proofs.Common.{sym, ap, subst, ◌∙◌, arith, length-append}
use borrow.Rule.Slice.PartMut.{put_mid}
use Rattle.expr.specs.Expr.{encode, binary_number}
use Rattle.expr.specs.Parts.{tail, Laid}
use Rattle.expr.specs.Front.{Whole, tree_at}
use Rattle.expr.specs.LentLaws.{laid_length, laid_on}
use Rattle.expr.specs.Trees.{tree_of}
use Rattle.atom_identity_rewrite.specs.declared.candidate.Candidate.{Candidate}
use Rattle.atom_identity_rewrite.specs.Promises.{second_tree, candidate_tree}

-- ---- `put_second`

module _ (ws : List ℕ) (x : Whole ws) (b : Bool) where
  long : length ws ≡ length (encode (tree_at ws))
  long = ap length x.words

  module _ (e : b ≡ true) where
    turned_words : encode (second_tree b (tree_at ws)) ≡ (7 ∷ 0 ∷ []) ++ encode (tree_at ws)
    unfolding encode
    turned_words = ap (λ (c : Bool). encode (second_tree c (tree_at ws))) e

    turned_long : length (encode (second_tree b (tree_at ws))) ≡ 2 + length ws
    turned_long = ap length turned_words ∙ omega (arith, long)

    pub turned_count : 2 + length ws ≡ length (encode (second_tree b (tree_at ws)))
    turned_count = sym turned_long

    pub turned_laid : (before after : List ℕ) → Laid before after ((7 ∷ 0 ∷ []) ++ encode (tree_at ws)) → Laid before after (encode (second_tree b (tree_at ws)))
    turned_laid before after l = subst (Laid before after) (sym turned_words) l

  module _ (e : b ≡ false) where
    plain_words : encode (second_tree b (tree_at ws)) ≡ encode (tree_at ws)
    plain_words = ap (λ (c : Bool). encode (second_tree c (tree_at ws))) e

pub ruleset seconds = (turned_laid, turned_count)

-- ---- `write_candidate`

module _ (c : Candidate) (before : List ℕ) (h : length (encode (candidate_tree c)) ≤ length before) (k : ℕ) (e : k ≡ binary_number c.kind) where
  -- the words up to the second operand
  abbrev first_words : List ℕ
  first_words = (k ∷ 0 ∷ []) ++ encode (tree_of c.first)

  -- those of the second operand
  abbrev second_words : List ℕ
  second_words = encode (second_tree c.negate (tree_of c.second))

  words_are : encode (candidate_tree c) ≡ first_words ++ second_words
  unfolding encode
  words_are = ap (λ (n : ℕ). n ∷ 0 ∷ (encode (tree_of c.first) ++ second_words)) (sym e)

  first_long : 2 + length c.first.words.now ≡ length first_words
  first_long = omega (arith, ap length c.first.whole.words)

  all_long : length (encode (candidate_tree c)) ≡ 2 + length c.first.words.now + length second_words
  all_long = ap length words_are ∙ length-append first_words second_words ∙ omega (arith, first_long)

  first_fits : 2 + length c.first.words.now ≤ length before
  first_fits = omega (arith, all_long)

  module _ (mid : List ℕ) (l : Laid before mid first_words) where
    laid_long : length mid ≡ length before
    laid_long = laid_length before mid first_words l (omega (arith, first_long, first_fits))

    pub candidate_written : (rest : List ℕ) → Laid (tail (2 + length c.first.words.now) mid) rest second_words
        → Laid before (put_mid (2 + length c.first.words.now) (length mid - (2 + length c.first.words.now)) mid rest) (encode (candidate_tree c))
    candidate_written rest m = subst (Laid before _) (sym words_are) (laid_on before mid first_words l (2 + length c.first.words.now) first_long rest second_words m)

  pub candidate_count : (n : ℕ) → n ≡ length second_words → 2 + length c.first.words.now + n ≡ length (encode (candidate_tree c))
  candidate_count n m = ap (λ (i : ℕ). 2 + length c.first.words.now + i) m ∙ sym all_long

pub ruleset writing = (candidate_written, candidate_count)
