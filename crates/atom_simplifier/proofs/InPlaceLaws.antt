-- A part of a node's words that is moved to the node's front. Assumes nothing.
use mathlib.Core.Path.{◌≡◌, refl, sym, ap, ap₂, subst, ◌∙◌}
use mathlib.Core.List.{List, [], ◌∷◌, ◌++◌}
use Prim.Native.Nat.{ℕ, ◌+◌, ◌-◌, ◌≤◌}
use native.Mathlib.Omega.{arith}
use lib.ListN.{length, take, drop, get_or, set}
use lib.Seq.{drop-drop}
use borrow.Rule.Slice.PartMut.{put_mid}
use Rattle.expr.specs.Parts.{tail, part, Laid}
use Rattle.expr.specs.TailLaws.{tail_drop}
use Rattle.expr.specs.PartLaws.{part_length}
use Rattle.atom_simplifier.specs.Promises.{copied}
use Rattle.atom_simplifier.proofs.WriteLaws.{join_laid}

-- ---- `join_down`

module _ (at len c : ℕ) (before : List ℕ) (g : 2 ≤ at) (h : at + len ≤ length before) where
  -- the operand's word is written
  zeroed : Laid before (set before 1 0) (get_or before 0 0 ∷ 0 ∷ [])
  zeroed = go before (omega arith)
    where
      go : (ws : List ℕ) → 2 ≤ length ws → Laid ws (set ws 1 0) (get_or ws 0 0 ∷ 0 ∷ [])
      go [] l = absurd (omega arith)
      go (x ∷ []) l = absurd (omega arith)
      go (x ∷ y ∷ ws) l = record { is = refl }

  -- the part that is moved, counted from the third word on
  same_part_lem : part (at - 2) (at - 2 + len) (tail 2 (set before 1 0)) ≡ part at (at + len) before
  same_part_lem =
      let e : at - 2 + len - (at - 2) ≡ at + len - at = omega arith in
      let f : 2 + (at - 2) ≡ at = omega arith in
      ap₂ (λ (i : ℕ) (v : List ℕ). take i (drop (at - 2) v)) e (tail_drop 2 (set before 1 0) ∙ ap (drop 2) zeroed.is)
      ∙ ap (take (at + len - at)) (drop-drop (at - 2) 2 before ∙ ap (λ (i : ℕ). drop i before) f)

  pub join_moved : (second third : List ℕ) → Laid (tail 2 (set before 1 0)) second (part (at - 2) (at - 2 + len) (tail 2 (set before 1 0)))
      → let moved = put_mid 2 (length (set before 1 0) - 2) (set before 1 0) second in
      Laid (tail (2 + len) moved) third (0 ∷ c ∷ []) → Laid before (put_mid (2 + len) (length moved - (2 + len)) moved third) (((get_or before 0 0 ∷ 0 ∷ []) ++ part at (at + len) before) ++ (0 ∷ c ∷ []))
  unfolding copied
  join_moved second third l m =
      join_laid 0 (part at (at + len) before) before (set before 1 0) (get_or before 0 0) c len (sym (part_length before at len h)) zeroed second third
      (subst (Laid (tail 2 (set before 1 0)) second) same_part_lem l) m
