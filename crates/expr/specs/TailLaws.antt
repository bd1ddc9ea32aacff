-- The part `&ws[a..]` of a slice. Assumes nothing.
use Rattle.std.specs.Prelude.{◌≡◌, List, ℕ, ◌-◌, length, drop}
use Rattle.std.proofs.Common.{ap, ◌∙◌, arith, length-drop, take_all}
use Rattle.expr.specs.Parts.{tail}

pub tail_drop : (a : ℕ) (ws : List ℕ) → tail a ws ≡ drop a ws
tail_drop a ws = take_all (length ws - a) (drop a ws) (omega (arith, length-drop a ws))

pub length_tail : (a : ℕ) (ws : List ℕ) → length (tail a ws) ≡ length ws - a
length_tail a ws = ap length (tail_drop a ws) ∙ length-drop a ws
