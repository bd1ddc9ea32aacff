-- What private functions promise one another. No public promise names it. Definitions only.
use Rattle.std.specs.Prelude.{Bool, true, ◌&&◌, List, [], ◌∷◌, ℕ, eqb}

-- every byte is the digit 0
unfoldable pub all_zeros : List ℕ → Bool
all_zeros [] = true
all_zeros (b ∷ bs) = eqb b 48 && all_zeros bs
