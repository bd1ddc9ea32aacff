-- What the public calls come to, and what the two that write a rewrite leave in the lent places. Definitions only.
use Rattle.std.specs.Prelude.{List, [], ℕ, ◌+◌, ◌*◌, ltb, if◌then◌else◌}
use Rattle.std.proofs.Math.Option.{Option}
use Rattle.expr.specs.Refusals.{refusal}
use Rattle.expr.specs.Outcome.{Outcome, refused, accepted, mapped, ◌and_then◌}
use Rattle.expr.specs.Expr.{Expr, nodes}
use Rattle.expr.specs.Lent.{lent_after}
use Rattle.width.specs.Checked.{checked}
use Rattle.expr.specs.Room.{room_for}
use Rattle.value.specs.Value.{one_width_of}
use Rattle.expr.specs.Optional.{map, ◌otherwise◌}
use Rattle.rewriting.specs.Measures.{D}
use Rattle.rewriting.specs.AtomSimplifier.{Site, local_rewrite, first_site}

-- 9 where an output of so many words has no room for one node more than the tree has
abbrev pub with_room : ℕ → Expr → Outcome Expr
with_room = room_for (λ t. 2 * (nodes t + 1))

-- the tree that is rewritten, or the refusal: 1, then 2 to 7, then 9
unfoldable pub admitted : List ℕ → ℕ → ℕ → Outcome Expr
admitted ws w room = checked w ws and_then with_room room

-- `local_certifiable_atom_rewrite`: the local rewrite of the tree, if it has one
unfoldable pub local_rewrite_at : List ℕ → ℕ → ℕ → Outcome (Option Expr)
local_rewrite_at ws w room = mapped (local_rewrite w) (admitted ws w room)

-- `find_first_certifiable_atom_rewrite`: the first site, if there is one; 9 also where the path has no room for 63 bytes
unfoldable pub first_site_at : List ℕ → ℕ → ℕ → ℕ → Outcome (Option Site)
first_site_at ws w bytes room =
    admitted ws w room and_then (λ t. if ltb bytes 63 then refused (refusal 9) else accepted (first_site w t))

-- 9 where so many words of work, in document 01's terms the lent words in which a chain builds its end tree, have no room for n + D nodes
abbrev pub with_work : ℕ → Expr → Outcome Expr
with_work = room_for (λ t. 2 * (nodes t + D t))

-- `chain`: the tree that it starts from, or the refusal: 1 to 8, then 9
unfoldable pub chain_admitted : List ℕ → ℕ → List ℕ → ℕ → Outcome Expr
chain_admitted ws w widths room = one_width_of ws w widths and_then with_work room

-- ---- what is written

-- the lent places after the call: f of the answer at their front, and unchanged where there is none or a refusal
abbrev pub written : {A : Type 0} → (A → List ℕ) → Outcome (Option A) → List ℕ → List ℕ
written f = lent_after (λ o. map f o otherwise [])
