-- What holds of the places of addends. Assumes nothing.
use Rattle.std.specs.Prelude.{List, [], ◌∷◌, ℕ}
use Rattle.std.proofs.Props.{props}
use Rattle.rewriting.specs.AtomIdentityRewrite as def
use Rattle.atom_identity_rewrite.specs.declared.addends.Addend.{Addend}
use Rattle.atom_identity_rewrite.specs.Places.{AddendIs, AddendsAre}

-- that the addends are at their places is known in one way
AddendIs-prop : (ws : List ℕ) (a : Addend) (x : def.Addend) → IsProp (AddendIs ws a x)
AddendIs-prop ws a x = Prim.hlevel props

pub AddendsAre-prop : (ws : List ℕ) (list : List Addend) (xs : List def.Addend) → IsProp (AddendsAre ws list xs)
unfolding AddendsAre
AddendsAre-prop ws [] [] = Prim.hlevel props
AddendsAre-prop ws [] (x ∷ xs) = Prim.hlevel props
AddendsAre-prop ws (a ∷ list) [] = Prim.hlevel props
AddendsAre-prop ws (a ∷ list) (x ∷ xs) = Prim.hlevel (props, AddendIs-prop ws a x, AddendsAre-prop ws list xs)
