-- Where the first line end of a chunk stands, and what `keep` copies and answers. Assumes nothing.
use Rattle.std.proofs.Common.{◌≡◌, refl, sym, ap, ap₂, ◌∙◌, true, false, List, [], ◌∷◌, ◌++◌, append_assoc, ℕ, zero, suc, ◌+◌, ◌-◌, ◌≤◌, ◌<◌, min, Option, None, Some, length, take, drop, get_or, arith, length-take}
use Rattle.std.proofs.Math.Dec.{eqb}
use Rattle.std.proofs.Math.Seq.{take-take, take-append-add, length_paste_head, drop-drop}
use Rattle.std.proofs.lemmas.Bool.{false_from_ne_true}
use Rattle.std.specs.Prelude.{unwrap_or}
use Rattle.memchr.specs.Find.{IsFirstByte, is_byte}
use Rattle.expr.specs.Lent.{over}
use Rattle.lines.specs.Lines.{up_to, has_end, used_of, kept}
use Rattle.lines.specs.LinesLaws.{front_is, ended_used, inside_ended, all_going, going_all, going_used}

-- ---- `end_of`

first_end : (bs : List ℕ) (k : ℕ) → k < length bs → ((j : ℕ) → j < k → eqb (get_or bs j 0) 10 ≡ true → ⊥) → eqb (get_or bs k 0) 10 ≡ true → k ≡ length (up_to bs)
unfolding up_to
first_end [] k l f e = absurd (omega arith)
first_end (b ∷ bs) zero l f e = rw e
first_end (b ∷ bs) (suc k) l f e =
    let n : eqb b 10 ≡ false = false_from_ne_true (eqb b 10) (f 0 (omega arith)) in
    rw n (ap suc (first_end bs k (omega arith) (λ j h. f (suc j) (omega arith)) e))

no_end : (bs : List ℕ) → ((j : ℕ) → j < length bs → eqb (get_or bs j 0) 10 ≡ true → ⊥) → length bs ≡ length (up_to bs)
unfolding up_to
no_end [] f = refl
no_end (b ∷ bs) f =
    let n : eqb b 10 ≡ false = false_from_ne_true (eqb b 10) (f 0 (omega arith)) in
    rw n (ap suc (no_end bs (λ j h. f (suc j) (omega arith))))

-- the first 0a, or the end of the chunk
pub end_found : (chunk : List ℕ) (r : Option ℕ) → IsFirstByte (is_byte 10) chunk r → unwrap_or r (length chunk) ≡ length (up_to chunk)
end_found chunk None f = no_end chunk (λ j h. f j (omega arith) h)
end_found chunk (Some k) f = first_end chunk k f.0.high (λ j h. f.0.before j (omega arith) h) f.1

-- ---- `keep`: the copy

front_take : (n : ℕ) (l : List ℕ) → take (length (take n l)) l ≡ take n l
front_take zero l = refl
front_take (suc n) [] = refl
front_take (suc n) (x ∷ l) = ap (λ (k : List ℕ). x ∷ k) (front_take n l)

front_inside : (chunk : List ℕ) → length (up_to chunk) ≤ length chunk
front_inside chunk = omega (arith, ap length (front_is chunk), length-take (length (up_to chunk)) chunk)

module _ (chunk before : List ℕ) (have end first count : ℕ) (e : end ≡ length (up_to chunk)) (f : first ≡ min have (length before)) (g : count ≡ min end (length before - first)) where
  pub copy_inside : count ≤ length chunk
  copy_inside = omega (arith, front_inside chunk)

  kept_is : kept (length before) (take have before) chunk ≡ take first before ++ take count chunk
  kept_is =
      let xs = take have before in
      let room = length before - first in
      let l : length xs ≡ first = omega (arith, length-take have before) in
      let m : length before ≡ length xs + room = omega (arith, l) in
      let n : count ≡ length (take room (up_to chunk)) = omega (arith, length-take room (up_to chunk)) in
      ap (λ (k : ℕ). take k (xs ++ up_to chunk)) m
      ∙ take-append-add xs (up_to chunk) room
      ∙ ap₂ (λ (u v : List ℕ). u ++ v) (sym (front_take have before) ∙ ap (λ (k : ℕ). take k before) l)
      (sym (front_take room (up_to chunk)) ∙ ap (λ (k : ℕ). take k (up_to chunk)) (sym n) ∙ ap (take count) (sym (front_is chunk)) ∙ take-take count (length (up_to chunk)) chunk (omega arith))

  pub have_is : first + count ≡ length (kept (length before) (take have before) chunk)
  have_is = sym (ap length kept_is ∙ length_paste_head before first chunk count (omega arith) (omega (arith, front_inside chunk)))

  pub all_copied : (k : ℕ) → k ≡ count → (copied : List ℕ) → copied ≡ take count chunk → take first before ++ (copied ++ drop k (drop first before)) ≡ over (kept (length before) (take have before) chunk) before
  all_copied k h copied i =
      ap₂ (λ (xs : List ℕ) (j : ℕ). take first before ++ (xs ++ drop j (drop first before))) i h
      ∙ sym (append_assoc (take first before) (take count chunk) (drop count (drop first before)))
      ∙ ap (λ (w : List ℕ). (take first before ++ take count chunk) ++ w) (drop-drop count first before)
      ∙ ap₂ (λ (xs : List ℕ) (j : ℕ). xs ++ drop j before) (sym kept_is) have_is

-- ---- `keep`: what it answers

module _ (chunk : List ℕ) (end : ℕ) (e : end ≡ length (up_to chunk)) where
  pub ended_is : end < length chunk → true ≡ has_end chunk
  ended_is l = sym (inside_ended chunk (omega arith))

  pub used_is : end < length chunk → end + 1 ≡ used_of chunk
  used_is l = omega (arith, ended_used chunk (sym (ended_is l)))

  pub going_is : length chunk ≤ end → false ≡ has_end chunk
  going_is l = sym (all_going chunk (omega arith))

  pub all_used : length chunk ≤ end → end ≡ used_of chunk
  all_used l = e ∙ ap length (going_all chunk (sym (going_is l))) ∙ sym (going_used chunk (sym (going_is l)))

pub ruleset keeping = (copy_inside, have_is, all_copied, ended_is, used_is, going_is, all_used)
