-- What this crate's private functions promise one another; no public promise names it. Definitions only.
use Rattle.std.specs.Prelude.{◌≡◌, Bool, true, false, ◌&&◌, ◌||◌, not, cond, List, [], ◌∷◌, ◌++◌, ℕ, ◌+◌, length, if◌then◌else◌, Option, Some, None}
use Rattle.std.specs.List.{FoldsTo}
use Rattle.std.proofs.Math.Option as option
use Rattle.std.proofs.Math.Option.{none, some}
use Rattle.expr.specs.Expr.{Expr, binary}
use Rattle.expr.specs.declared.kind.Binary.TheVariants.{Xor}
use Rattle.expr.specs.Outcome.{accepted}
use Rattle.expr.specs.Parts.{part}
use Rattle.expr.specs.Lent.{lent_after}
use Rattle.expr.specs.Front.{tree_at}
use Rattle.expr.specs.Optional.{◌or_else◌, only_if}
use Rattle.expr.specs.Trees.{tree_of, optional_tree, optional_trees}
use Rattle.expr.specs.declared.tree.Tree.{Tree}
use Rattle.rewriting.specs.AtomSimplifier as tree
use Rattle.rewriting.specs.AtomIdentityRewrite as def
use Rattle.rewriting.specs.AtomIdentityRewrite.{expr_eq, is_not_of, flatten_addends, any_negated, extract, is_there, is_masked, is_constant_node, as_one, as_or, as_minus_two, as_minus_twice_or, tagged}
use Rattle.rewriting.specs.CandidateClaims.{numbered}
use Rattle.atom_identity_rewrite.specs.Calls.{asked_for, told, candidate_words}
use Rattle.atom_identity_rewrite.specs.Answers.{tag_number, asked_of}
use Rattle.atom_identity_rewrite.specs.Places.{AddendIs, AddendsAre}
use Rattle.atom_identity_rewrite.specs.declared.Found.{Found}
use Rattle.atom_identity_rewrite.specs.declared.node.Factor.{Factor}
use Rattle.atom_identity_rewrite.specs.declared.node.Factor.TheVariants as factor
use Rattle.atom_identity_rewrite.specs.declared.addends.Addend.{Addend}
use Rattle.atom_identity_rewrite.specs.declared.addends.SignedTree.{SignedTree}
use Rattle.atom_identity_rewrite.specs.declared.candidate.Candidate.{Candidate}
use Rattle.atom_identity_rewrite.specs.declared.candidate.Offer.{Offer}
use Rattle.atom_identity_rewrite.specs.declared.candidate.Offer.TheVariants as offer
use Rattle.atom_identity_rewrite.specs.declared.reading.Roles.{Roles}

-- ---- factors

-- the test of a factor beside an Or
abbrev pub factor_of : Factor → Expr → Bool
factor_of (factor.Two w) t = is_masked w.bits 2 t
factor_of factor.Constant t = is_constant_node t

-- ---- candidates

-- a candidate's second operand
abbrev pub second_tree : Bool → Expr → Expr
second_tree negate t = if negate then tree.not t else t

-- the tree that a candidate stands for
abbrev pub candidate_tree : Candidate → Expr
candidate_tree c = binary c.kind (tree_of c.first) (second_tree c.negate (tree_of c.second))

-- a matcher's answer
abbrev pub made : Option Candidate → option.Option Expr
made None = none
made (Some c) = some (candidate_tree c)

-- the answer for a and b in this order, else in the other
pub record EitherOrder (answer : Tree → Tree → Option Candidate → Type 0) (a b : Tree) (r : Option Candidate) : Type 0 where
  pub is : (f : Expr → Expr → option.Option Expr) → ((x y : Tree) (o : Option Candidate) → answer x y o → made o ≡ f (tree_of x) (tree_of y)) → made r ≡ (f (tree_of a) (tree_of b) or_else f (tree_of b) (tree_of a))

-- of the candidates cs the one of that number was found, or so many are left to pass over before it
unfoldable pub OfferIs : ℕ → List def.Candidate → Offer → Type 0
OfferIs number cs (offer.Left left) = left + length cs ≡ number
OfferIs number cs (offer.Found tag c) = numbered number cs ≡ some (record { tag = tag_number tag; tree = candidate_tree c })

pub record Offered (number : ℕ) (cs : List def.Candidate) (o : Offer) : Type 0 where
  pub is : OfferIs number cs o

-- these candidates more were offered
pub record OffersList (more : List def.Candidate) (before after : Offer) : Type 0 where
  pub offers : (number : ℕ) (cs : List def.Candidate) → Offered number cs before → Offered number (cs ++ more) after

-- these trees more were offered
abbrev pub OffersAll : ℕ → List Expr → Offer → Offer → Type 0
OffersAll tag us before after = OffersList (tagged tag us) before after

-- what tag 5 makes of the Or's operands and of the addends a and b
abbrev pub xor_of_or_not : Expr → Expr → Expr → Expr → option.Option Expr
xor_of_or_not l r a b = only_if ((expr_eq l a && is_not_of r b) || (expr_eq r a && is_not_of l b)) (binary Xor a b)

-- ---- addends

-- the addend of the definition
abbrev pub addend_of : SignedTree → def.Addend
addend_of a = record { expr = tree_of a.tree; negated = a.negated }

-- each addend stands in the words
pub record Addended (ws : List ℕ) (list : List Addend) : Type 0 where
  pub addends : List def.Addend
  pub are : AddendsAre ws list addends

-- an addend stands in the words
pub record Named (ws : List ℕ) (a : Addend) : Type 0 where
  pub addend : def.Addend
  pub is : AddendIs ws a addend

-- the addend of the definition that an addend of the list is
abbrev pub placed_addend : List ℕ → Addend → def.Addend
placed_addend ws a = record { expr = tree_at (part a.start (a.start + a.len) ws); negated = a.negated }

-- ---- reading the addends

-- `read` takes the state s to r over an addend
pub record ReadsOne {S : Type 0} (read : S → SignedTree → S → Type 0) (s : S) (x : def.Addend) (r : S) : Type 0 where
  pub addend : SignedTree
  pub is : addend_of addend ≡ x
  pub reads : read s addend r

-- and over all of them, one after the other
pub record Folded {S : Type 0} (read : S → SignedTree → S → Type 0) (s : S) (xs : List def.Addend) (r : S) : Type 0 where
  pub folds : FoldsTo (ReadsOne read) s xs r

pub record ReadAll {S : Type 0} (ws : List ℕ) (list : List Addend) (read : S → SignedTree → S → Type 0) (s r : S) : Type 0 where
  pub folded : (xs : List def.Addend) → AddendsAre ws list xs → Folded read s xs r

-- ---- tags 4 and 5

-- all addends but the first that f answers
abbrev pub others : {B : Type 0} → option.Option (B × List def.Addend) → List def.Addend → List def.Addend
others none xs = xs
others (some p) xs = p.1

abbrev pub remaining : {B : Type 0} → (def.Addend → option.Option B) → List def.Addend → List def.Addend
remaining f xs = others (extract f xs) xs

-- the first answer of f
abbrev pub first_of : {B : Type 0} → option.Option (B × List def.Addend) → option.Option B
first_of none = none
first_of (some p) = some p.0

-- the last addend with that sign
unfoldable pub last_signed : Bool → List def.Addend → option.Option Expr
last_signed s [] = none
last_signed s (x ∷ xs) = last_signed s xs or_else only_if (cond x.negated s (not s)) x.expr

-- of no addend
abbrev pub no_roles : Roles
no_roles = record { unit = false; or = None; plus = None; minus = None; negated = false }

-- the roles of the addends xs: f picks the constant, and of the others g the Or
pub record Sorted (f : def.Addend → option.Option Expr) (g : def.Addend → option.Option (Expr × Expr)) (xs : List def.Addend) (r : Roles) : Type 0 where
  pub unit_is : r.unit ≡ is_there (extract f xs)
  pub or_is : optional_trees r.or ≡ first_of (extract g (remaining f xs))
  pub plus_is : optional_tree r.plus ≡ last_signed false (remaining g (remaining f xs))
  pub minus_is : optional_tree r.minus ≡ last_signed true (remaining g (remaining f xs))
  pub negated_is : r.negated ≡ any_negated xs

-- one addend more
pub record Sorts (f : def.Addend → option.Option Expr) (g : def.Addend → option.Option (Expr × Expr)) (x : def.Addend) (before after : Roles) : Type 0 where
  pub sorts : (xs : List def.Addend) → Sorted f g xs before → Sorted f g (xs ++ (x ∷ [])) after

-- one addend more, of which is known whether it is the constant, and the Or that it is or has
pub record SortsAs (x : def.Addend) (unit : Bool) (or : Option (Tree × Tree)) (before after : Roles) : Type 0 where
  pub sorts : (f : def.Addend → option.Option Expr) (g : def.Addend → option.Option (Expr × Expr)) → unit ≡ is_there (f x) → optional_trees or ≡ g x → Sorts f g x before after

-- what tag 4 makes of the roles of three addends
pub record AndOfRoles (r : Roles) (o : option.Option Expr) : Type 0 where
  pub is : (w : ℕ) (xs : List def.Addend) → length xs ≡ 3 → Sorted (as_one w) as_or xs r → o ≡ def.match_and_via_not_or_plus_a_plus_one w xs

-- what tag 5 makes of the roles of four addends
pub record XorOfRoles (r : Roles) (o : option.Option Expr) : Type 0 where
  pub is : (w : ℕ) (xs : List def.Addend) → length xs ≡ 4 → Sorted (as_minus_two w) (as_minus_twice_or w) xs r → o ≡ def.match_xor_via_ornot_flat w xs

-- ---- one tag after the other

-- the candidates with tags 4 to 7
abbrev pub sum_candidates : ℕ → Expr → List def.Candidate
sum_candidates w t =
    tagged 4 (def.to_list (def.match_and_via_not_or_plus_a_plus_one w (flatten_addends t)))
    ++ (tagged 5 (def.to_list (def.match_xor_via_ornot_flat w (flatten_addends t)))
    ++ def.lax_candidates t)

-- ---- the call

-- the answer and the lent words are what the definition asks for
pub record Answers (t : Expr) (w number : ℕ) (r : Found) (before after : List ℕ) : Type 0 where
  pub answer : asked_of r ≡ told (asked_for number (def.candidates w t))
  pub memory : after ≡ lent_after candidate_words (accepted (asked_for number (def.candidates w t))) before
