-- Where the addends of a tree stand in its words. Definitions only.
use Rattle.std.specs.Prelude.{◌≡◌, List, [], ◌∷◌, ℕ, ◌+◌, ◌≤◌, length}
use Rattle.expr.specs.Expr.{Expr}
use Rattle.expr.specs.Parts.{part}
use Rattle.expr.specs.Front.{Exactly}
use Rattle.rewriting.specs.AtomIdentityRewrite as def
use Rattle.atom_identity_rewrite.specs.declared.addends.Addend.{Addend}

-- the tree whose words stand at that place, `len` of them
pub record Stands (ws : List ℕ) (at len : ℕ) (t : Expr) : Type 0 where
  pub inside : at + len ≤ length ws
  pub exactly : Exactly (part at (at + len) ws) t

-- an addend of the list is the addend of the definition
pub record AddendIs (ws : List ℕ) (a : Addend) (x : def.Addend) : Type 0 where
  pub stands : Stands ws a.start a.len x.expr
  pub sign : a.negated ≡ x.negated

unfoldable pub AddendsAre : List ℕ → List Addend → List def.Addend → Type 0
AddendsAre ws [] [] = Unit
AddendsAre ws [] (x ∷ xs) = ⊥
AddendsAre ws (a ∷ more) [] = ⊥
AddendsAre ws (a ∷ more) (x ∷ xs) = AddendIs ws a x × AddendsAre ws more xs
