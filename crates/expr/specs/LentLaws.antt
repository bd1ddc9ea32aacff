-- Writing at the front of lent places, one after the other. Assumes nothing.
use Rattle.std.specs.Prelude.{◌≡◌, refl, List, [], ◌∷◌, ◌++◌, ℕ, suc, ◌+◌, ◌-◌, ◌≤◌, ◌<◌, length, take, drop, get_or, set}
use Rattle.std.proofs.Common.{sym, ap, ap₂, ◌∙◌, append_assoc, append-nil, arith, length-append, length-drop, drop_of_length-le, take_at, drop_at, drop-drop, length-take-le}
use Rattle.std.proofs.Math.Seq.{paste-suc}
use borrow.Rule.Slice.PartMut.{put_mid}
use Rattle.expr.specs.Parts.{tail, Laid}
use Rattle.expr.specs.TailLaws.{tail_drop}

-- places that are written over one after the other, where i are written
module _ {X : Type 0} (from onto : List X) where
  abbrev pub filled : ℕ → List X
  filled i = take i from ++ drop i onto

  pub length_filled : (i : ℕ) → i ≤ length from → i ≤ length onto → length (filled i) ≡ length onto
  length_filled i h k = omega (arith, length-append (take i from) (drop i onto), length-take-le i from h, length-drop i onto)

  -- one more
  pub filled_next : (i : ℕ) (d : X) → i < length from → i < length onto → set (filled i) i (get_or from i d) ≡ filled (i + 1)
  filled_next i d h k =
      let z : 0 + i ≡ i = omega arith in
      let inside : 0 + i < length onto = omega arith in
      let e : suc i ≡ i + 1 = omega arith in
      let f : 0 + suc i ≡ i + 1 = omega arith in
      ap₂ (λ (j m : ℕ). set (take i from ++ drop j onto) m (get_or from i d)) (sym z) (sym z)
      ∙ paste-suc onto 0 from i d inside h
      ∙ ap₂ (λ (j m : ℕ). take j from ++ drop m onto) e f

-- a part to the end, back in its place
pub put_tail : (n : ℕ) (xs ys : List ℕ) → put_mid n (length xs - n) xs ys ≡ take n xs ++ ys
put_tail n xs ys =
    let m : length (drop n xs) ≤ length xs - n = omega (arith, length-drop n xs) in
    ap (λ (l : List ℕ). take n xs ++ (ys ++ l)) (drop_of_length-le (drop n xs) m) ∙ ap (λ (l : List ℕ). take n xs ++ l) (append-nil ys)

-- a node's two words
pub node_put : (k o : ℕ) (before : List ℕ) → 2 ≤ length before → Laid before (set (set before 0 k) 1 o) (k ∷ o ∷ [])
node_put k o [] h = absurd (omega arith)
node_put k o (x ∷ []) h = absurd (omega arith)
node_put k o (x ∷ y ∷ ws) h = record { is = refl }

pub laid_length : (before after xs : List ℕ) → Laid before after xs → length xs ≤ length before → length after ≡ length before
laid_length before after xs l h = ap length l.is ∙ length-append xs (drop (length xs) before) ∙ omega (arith, length-drop (length xs) before)

module _ (before first xs : List ℕ) (l : Laid before first xs) (n : ℕ) (e : n ≡ length xs) where
  pub laid_on : (rest ys : List ℕ) → Laid (tail n first) rest ys → Laid before (put_mid n (length first - n) first rest) (xs ++ ys)
  laid_on rest ys m = record {
    is =
        put_tail n first rest
        ∙ ap₂ (λ (u v : List ℕ). u ++ v) (ap (take n) l.is ∙ take_at xs (drop (length xs) before) n (sym e)) (m.is ∙ ap (λ (u : List ℕ). ys ++ drop (length ys) u) (tail_drop n first ∙ ap (drop n) l.is ∙ drop_at xs (drop (length xs) before) n (sym e)))
        ∙ ap (λ (u : List ℕ). xs ++ (ys ++ u)) (drop-drop (length ys) (length xs) before ∙ ap (λ (i : ℕ). drop i before) (sym (length-append xs ys)))
        ∙ sym (append_assoc xs ys (drop (length (xs ++ ys)) before));
  }
