-- Lines of bytes, and what is read of a chunk. Definitions only.
use Rattle.std.specs.Prelude.{Bool, true, false, List, [], ◌∷◌, ◌++◌, ℕ, suc, eqb, take, if◌then◌else◌}

-- ---- lines

-- what the bytes after the last line end, byte 0a, give: one line, or none where there are no such bytes
unfoldable pub last_line : List ℕ → List (List ℕ)
last_line [] = []
last_line (b ∷ bs) = (b ∷ bs) ∷ []

-- the lines of the bytes that begin with `before`, which has no 0a, and go on with the second list; a line's 0a is not part of it
unfoldable pub lines_from : List ℕ → List ℕ → List (List ℕ)
lines_from before [] = last_line before
lines_from before (b ∷ bs) = if eqb b 10 then before ∷ lines_from [] bs else lines_from (before ++ (b ∷ [])) bs

-- the lines of bytes
abbrev pub lines_of : List ℕ → List (List ℕ)
lines_of bs = lines_from [] bs

-- ---- the first line end of a chunk

-- the bytes before it; all of them where there is none
unfoldable pub up_to : List ℕ → List ℕ
up_to [] = []
up_to (b ∷ bs) = if eqb b 10 then [] else b ∷ up_to bs

-- whether there is one
unfoldable pub has_end : List ℕ → Bool
has_end [] = false
has_end (b ∷ bs) = if eqb b 10 then true else has_end bs

-- how many bytes go up to it, it included; all of them where there is none
unfoldable pub used_of : List ℕ → ℕ
used_of [] = 0
used_of (b ∷ bs) = if eqb b 10 then 1 else suc (used_of bs)

-- the bytes of a line that are kept, at most `most`: those that were kept before, and those of the chunk up to its first line end
abbrev pub kept : ℕ → List ℕ → List ℕ → List ℕ
kept most before chunk = take most (before ++ up_to chunk)
