-- Parts of lent words, as a call is handed them, and what is laid into them. Private contracts name these; no public promise does. Definitions only.
use Rattle.std.specs.Prelude.{◌≡◌, List, ℕ, ◌-◌, length, take, drop}
use Rattle.expr.specs.Lent.{over}

-- `&ws[a..]`
abbrev pub tail : ℕ → List ℕ → List ℕ
tail a ws = take (length ws - a) (drop a ws)

-- `&ws[a..e]`
abbrev pub part : ℕ → ℕ → List ℕ → List ℕ
part a e ws = take (e - a) (drop a ws)

-- `over` between the places before and after
pub record Laid (before after xs : List ℕ) : Type 0 where
  pub is : after ≡ over xs before
