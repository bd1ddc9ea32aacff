-- Writing words at the front of lent ones. Assumes nothing.
use mathlib.Core.Path.{◌≡◌, refl, ap, subst, ◌∙◌}
use mathlib.Core.List.{List, [], ◌∷◌, ◌++◌}
use Prim.Native.Nat.{ℕ, ◌+◌, ◌-◌, ◌≤◌}
use native.Mathlib.Omega.{arith}
use lib.ListN.{length, take, drop, length-drop}
use lib.Seq.{take_all, length-take-le}
use borrow.Rule.Slice.PartMut.{put_mid}
use Rattle.expr.specs.Parts.{tail, part, Laid}
use Rattle.expr.specs.Lent.{over}
use Rattle.expr.specs.LentLaws.{laid_on}
use Rattle.atom_simplifier.specs.Promises.{copied, dual_number}

-- ---- `copy`

pub part_copied : (w : ℕ) (part before after : List ℕ) → length part ≤ length before → after ≡ over (take (length before) part) before → Laid before after (copied w part)
unfolding copied
part_copied w part before after h e = record { is = e ∙ ap (λ (l : List ℕ). over l before) (take_all (length before) part h) }

-- ---- the pieces of a replacement

copied_length : (w a e : ℕ) (ws : List ℕ) → a ≤ e → e ≤ length ws → length (copied w (part a e ws)) ≡ e - a
unfolding copied
copied_length w a e ws h l = length-take-le (e - a) (drop a ws) (omega (arith, length-drop a ws))

module _ (w : ℕ) (part before first : List ℕ) where
  pub join_laid : (k c len : ℕ) → len ≡ length part → Laid before first (k ∷ 0 ∷ []) → (second third : List ℕ) → Laid (tail 2 first) second (copied w part)
      → let v = put_mid 2 (length first - 2) first second in
      let last = 2 + len in
      Laid (tail last v) third (0 ∷ c ∷ []) → Laid before (put_mid last (length v - last) v third) (((k ∷ 0 ∷ []) ++ copied w part) ++ (0 ∷ c ∷ []))
  unfolding copied
  join_laid k c len e p second third q r =
      let f : 2 + len ≡ length ((k ∷ 0 ∷ []) ++ part) = omega arith in
      laid_on before _ ((k ∷ 0 ∷ []) ++ part) (laid_on before first (k ∷ 0 ∷ []) p 2 refl second part q) (2 + len) f third (0 ∷ c ∷ []) r

module _ (w : ℕ) (node before first : List ℕ) where
  pub de_morgan_laid : (k d right end : ℕ) → d ≡ dual_number k → 4 ≤ right → right ≤ length node → Laid before first (d ∷ 0 ∷ [])
      → (second third : List ℕ) → Laid (tail 2 first) second ((7 ∷ 0 ∷ []) ++ copied w (part 4 right node))
      → let v = put_mid 2 (length first - 2) first second in
      Laid (tail right v) third ((7 ∷ 0 ∷ []) ++ copied w (part right end node))
      → Laid before (put_mid right (length v - right) v third) (((dual_number k ∷ 0 ∷ []) ++ ((7 ∷ 0 ∷ []) ++ copied w (part 4 right node))) ++ ((7 ∷ 0 ∷ []) ++ copied w (part right end node)))
  de_morgan_laid k d right end i h l p second third q r =
      let xs = (7 ∷ 0 ∷ []) ++ copied w (part 4 right node) in
      let e : right ≡ length ((d ∷ 0 ∷ []) ++ xs) = omega (arith, copied_length w 4 right node h l) in
      subst (λ (j : ℕ). Laid before (put_mid right (length (put_mid 2 (length first - 2) first second) - right) (put_mid 2 (length first - 2) first second) third) (((j ∷ 0 ∷ []) ++ xs) ++ ((7 ∷ 0 ∷ []) ++ copied w (part right end node)))) i
      (laid_on before _ ((d ∷ 0 ∷ []) ++ xs) (laid_on before first (d ∷ 0 ∷ []) p 2 refl second xs q) right e third _ r)
