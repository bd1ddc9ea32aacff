-- What the answers stand for beside `outcome` of `expr`: a struct is its numbers. Definitions only.
use Rattle.std.specs.Prelude.{ℕ}
use Rattle.atom_simplifier.specs.declared.FoundSite.{FoundSite}
use Rattle.atom_simplifier.specs.declared.chain.ChainEnd.{ChainEnd}

-- the bytes of the path, and the nodes of the replacement
abbrev pub site_numbers : FoundSite → ℕ × ℕ
site_numbers s = (s.path, s.nodes)

-- the nodes of the end tree, and the number of rewrites
abbrev pub end_numbers : ChainEnd → ℕ × ℕ
end_numbers e = (e.nodes, e.rewrites)
