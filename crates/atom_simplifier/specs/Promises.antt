-- What this crate's private functions promise one another; no public promise names it. Definitions only.
use Rattle.std.specs.Prelude.{◌≡◌, Bool, ◌||◌, List, [], ◌∷◌, ◌++◌, ℕ, ◌+◌, ◌*◌, ◌≤◌, T, Some, None, IsSomeAnd, eqb, length, drop, get_or, set, if◌then◌else◌, ◌<◌, ◌^◌}
use Rattle.std.specs.Prelude as answered
use Rattle.std.specs.declared.ops.ControlFlow.{ControlFlow}
use Rattle.std.specs.declared.ops.ControlFlow.TheVariants.{Continue, Break}
use Rattle.std.proofs.Math.Option.{Option, none, some}
use Rattle.expr.specs.declared.kind.Binary.{Binary}
use Rattle.expr.specs.declared.kind.Binary.TheVariants.{And, Or}
use Rattle.expr.specs.Expr.{Expr, binary, binary_number, encode}
use Rattle.expr.specs.Outcome.{accepted}
use Rattle.expr.specs.Parse.{arity_of, operands_ok}
use Rattle.expr.specs.Parts.{tail, part, Laid}
use Rattle.expr.specs.Front.{Front, Starts, Whole, tree_at}
use Rattle.expr.specs.Optional.{◌equals_some◌}
use Rattle.expr.specs.declared.tree.Tree.{Tree}
use Rattle.expr.specs.Trees.{tree_of}
use Rattle.arith.specs.Bv.{ones}
use Rattle.rewriting.specs.AtomSimplifier as def
use Rattle.rewriting.specs.AtomSimplifier.{constant, not, is_not, constant_val, unless_same, Bitwise, and, or, xor, kind_of, arms, first_rewrite}
use Rattle.rewriting.specs.Measures.{and_ors_of, D}
use Rattle.rewriting.specs.ShapeLaws.{Dual}
use Rattle.rewriting.specs.EndLaws.{Ends, NoneBelow}
use Rattle.atom_simplifier.specs.declared.fold.Bitwise as fold
use Rattle.atom_simplifier.specs.declared.fold.Bitwise.TheVariants as op
use Rattle.atom_simplifier.specs.declared.fold.Arm.{Arm}
use Rattle.atom_simplifier.specs.declared.fold.Arm.TheVariants as arm
use Rattle.atom_simplifier.specs.declared.local.Decision.{Decision}
use Rattle.atom_simplifier.specs.declared.local.Decision.TheVariants.{Part, Constant, Join, DeMorgan}
use Rattle.atom_simplifier.specs.declared.operands.Placed.{Placed}
use Rattle.atom_simplifier.specs.declared.search.Site.{Site}
use Rattle.atom_simplifier.specs.declared.pairs.Pairs.{Pairs}

-- at width w the tree is the Constant c
unfoldable pub is_constant : ℕ → Expr → ℕ → Bool
is_constant w t c = constant_val w t equals_some c

-- the folded kind, as the definitions name it
abbrev pub bitwise_of : fold.Bitwise → Bitwise
bitwise_of op.And = and
bitwise_of op.Or = or
bitwise_of op.Xor = xor

-- its number
abbrev pub number_of : fold.Bitwise → ℕ
number_of o = binary_number (kind_of (bitwise_of o))

-- the number is that of the folded kind, or of none
abbrev pub KindIs : ℕ → answered.Option fold.Bitwise → Type 0
KindIs k None = (o : fold.Bitwise) → k ≡ number_of o → ⊥
KindIs k (Some o) = k ≡ number_of o

-- the kind that a node of the kind absorbs
abbrev pub dual_of : Bitwise → Option Binary
dual_of and = some Or
dual_of or = some And
dual_of xor = none

-- the constant that leaves the other operand
abbrev pub identity_of : ℕ → Bitwise → ℕ
identity_of w and = ones w
identity_of w or = 0
identity_of w xor = 0

-- what an operand and its complement come to
abbrev pub complements_of : ℕ → Bitwise → ℕ
complements_of w and = 0
complements_of w or = ones w
complements_of w xor = ones w

-- the constant that the node comes to with any other operand
abbrev pub absorbing_of : ℕ → Bitwise → Option ℕ
absorbing_of w and = some 0
absorbing_of w or = some (ones w)
absorbing_of w xor = none

-- what an arm makes of the operands t and u
abbrev pub arm_tree : Bitwise → Expr → Expr → Arm → Expr
arm_tree op t u arm.Left = t
arm_tree op t u arm.Right = u
arm_tree op t u (arm.Constant c) = constant c
arm_tree op t u arm.Node = binary (kind_of op) t u

-- what the arms make of the operands, where it is another tree than the node
abbrev pub arm_rewrite : ℕ → Bitwise → Expr → Expr → Option Expr
arm_rewrite w op t u = unless_same w (binary (kind_of op) t u) (arms w op t u)

-- the part stands in the words, from place `at` on
pub record Within (ws : List ℕ) (at : ℕ) (part : List ℕ) : Type 0 where
  pub prefix : List ℕ
  pub suffix : List ℕ
  pub words : ws ≡ prefix ++ (part ++ suffix)
  pub place : at ≡ length prefix

-- the words of the tree stand in the words at that place and of that length; the place is even, as every node's is
pub record Holds (ws : List ℕ) (at len : ℕ) (t : Expr) : Type 0 where
  pub within : Within ws at (encode t)
  pub words : len ≡ length (encode t)
  pub half : ℕ
  pub even : at ≡ 2 * half

-- u is the node's own kind over the tree at that place and the constant c
pub record Joined (ws : List ℕ) (at len c : ℕ) (u : Expr) : Type 0 where
  pub kind : Binary
  pub operand : Expr
  pub number : get_or ws 0 0 ≡ binary_number kind
  pub is : u ≡ binary kind operand (constant c)
  pub holds : Holds ws at len operand

-- the number of the other one of And and Or
abbrev pub dual_number : ℕ → ℕ
dual_number k = if eqb k 4 then 5 else 4

-- the words are those of Not over an And or Or of two operands, the right one at that place, and u is that by De Morgan's law
pub record Turns (ws : List ℕ) (right : ℕ) (u : Expr) : Type 0 where
  pub kind : Binary
  pub other : Binary
  pub left_operand : Expr
  pub right_operand : Expr
  pub was : ws ≡ encode (not (binary kind left_operand right_operand))
  pub is : u ≡ binary other (not left_operand) (not right_operand)
  pub number : dual_number (binary_number kind) ≡ binary_number other
  pub place : right ≡ 4 + length (encode left_operand)

-- the tree that a decision about the node of these words makes
unfoldable pub Makes : List ℕ → Decision → Expr → Type 0
Makes ws (Part at len) u = Holds ws at len u
Makes ws (Constant c) u = u ≡ constant c
Makes ws (Join at len c) u = Joined ws at len c u
Makes ws (DeMorgan right) u = Turns ws right u

-- what the definition gives for the node is what the decision makes, and there is no decision where it gives none
unfoldable pub Meaning : List ℕ → answered.Option Decision → Option Expr → Type 0
Meaning ws d none = d ≡ None
Meaning ws d (some u) = IsSomeAnd d (λ e. Makes ws e u)

pub record Decides (ws : List ℕ) (d : answered.Option Decision) (o : Option Expr) : Type 0 where
  pub is : Meaning ws d o

-- the same, in every node of the kind number k that has the part at `from`, an even place
pub record DecidesAt (k from : ℕ) (part : List ℕ) (d : answered.Option Decision) (o : Option Expr) : Type 0 where
  pub in_node : (ws : List ℕ) (half : ℕ) → from ≡ 2 * half → Within ws from part → get_or ws 0 0 ≡ k → Decides ws d o

-- ---- parts by their places

-- that the part takes the node's place
abbrev pub part_of : Placed → Decision
part_of p = Part p.at (length p.tree.words.now)

abbrev pub placed_trees : answered.Option (Placed × Placed) → Option (Expr × Expr)
placed_trees None = none
placed_trees (Some p) = some (tree_of p.0.tree, tree_of p.1.tree)

-- the operands stand in the part, one behind the other
abbrev pub AreBelow : Placed → answered.Option (Placed × Placed) → Type 0
AreBelow p None = Unit
AreBelow p (Some q) =
    (q.0.at ≡ p.at + 2) × (q.1.at ≡ q.0.at + length q.0.tree.words.now)
    × (p.tree.words.now ≡ get_or p.tree.words.now 0 0 ∷ 0 ∷ (q.0.tree.words.now ++ q.1.tree.words.now))

-- ---- writing

-- the words that are written for a part's words: the same, at every width
unfoldable pub copied : ℕ → List ℕ → List ℕ
copied w part = part

-- the decision makes a tree, and there is room for its words
pub record Writable (ws : List ℕ) (d : Decision) (room : ℕ) : Type 0 where
  pub tree : Expr
  pub makes : Makes ws d tree
  pub fits : length (encode tree) ≤ room

-- the words of the tree that the decision makes were written, n of them
pub record Writes (ws : List ℕ) (d : Decision) (before after : List ℕ) (n : ℕ) : Type 0 where
  pub laid : (u : Expr) → Makes ws d u → Laid before after (encode u)
  pub count : (u : Expr) → Makes ws d u → n ≡ length (encode u)

-- the words begin with those of a node, `len` of them, and what the decision makes of it has no more
pub record Replaceable (ws : List ℕ) (len : ℕ) (d : Decision) : Type 0 where
  pub inside : len ≤ length ws
  pub whole : Whole (part 0 len ws)
  pub writable : Writable (part 0 len ws) d len

-- the words begin with those of a node over so many children
abbrev pub HasArity : List ℕ → ℕ → Type 0
HasArity ws n = arity_of (get_or ws 0 0) ≡ accepted n

-- ---- the search

-- the answer for a root whose children have no site
abbrev pub at_root : Tree → answered.Option Decision → ControlFlow Site ℕ
at_root root None = Continue (length root.words.now)
at_root root (Some d) = Break (record { node = root; levels = 0; local = d })

-- the site was found, and its path was written at the front of the lent bytes
pub record IsFound (site : def.Site) (before after : List ℕ) (s : Site) : Type 0 where
  pub bytes : Laid before after site.path
  pub levels_is : s.levels ≡ length site.path
  pub makes : Makes s.node.words.now s.local site.replacement

-- the answer is the site o, or none and the number n of words, with nothing written
unfoldable pub SearchIs : Option def.Site → ℕ → List ℕ → List ℕ → ControlFlow Site ℕ → Type 0
SearchIs o n before after (Continue m) = (o ≡ none) × (m ≡ n) × (after ≡ before)
SearchIs o n before after (Break s) = (site : def.Site) × (o ≡ some site) × IsFound site before after s

pub record Searched (o : Option def.Site) (n : ℕ) (before after : List ℕ) (r : ControlFlow Site ℕ) : Type 0 where
  pub is : SearchIs o n before after r

-- ---- the chain

-- a tree's And and Or nodes, and its pairs
unfoldable pub counted : Expr → Pairs
counted t = record { and_ors = and_ors_of t; pairs = D t }

-- each of the two numbers has at most 64 bits
abbrev pub Narrow : Expr → Type 0
Narrow t = (and_ors_of t < 2 ^ 64) × (D t < 2 ^ 64)

-- what the walk finds of a tree, unless one of the two numbers has more than 64 bits and a sum wraps
pub record PairsOf (found : Pairs) (t : Expr) : Type 0 where
  pub pairs_are : and_ors_of t < 2 ^ 64 → D t < 2 ^ 64 → found ≡ counted t

-- so few that their sums do not wrap
abbrev pub Few : Pairs → Type 0
Few p = (p.and_ors ≤ 1024) × (p.pairs ≤ 1048576)

-- the words that are read into the work for a node of the input: the same, at every width
unfoldable pub loaded : ℕ → ℕ → ℕ → List ℕ
loaded w kind operand = kind ∷ operand ∷ []

-- the words begin with those of the tree, `len` of them and at most 1,024, and no node below its root is a site
pub record Settleable (w : ℕ) (ws : List ℕ) (len : ℕ) : Type 0 where
  pub starts : Starts ws
  pub len_is : len ≡ length (encode (tree_at ws))
  pub short : len ≤ 1024
  pub below : NoneBelow w (tree_at ws)

-- from place `from` on stand the words of an operand without a site, `len` of them; it is a Not, or two words before it are free
pub record Apart (w : ℕ) (ws : List ℕ) (from len : ℕ) : Type 0 where
  pub starts : Starts (tail from ws)
  pub len_is : len ≡ length (encode (tree_at (tail from ws)))
  pub short : from + len ≤ 1024
  pub still : first_rewrite w (tree_at (tail from ws)) ≡ none
  pub free : (get_or ws from 0 ≡ 7 → ⊥) → 2 ≤ from

-- the words begin with those of a Not over an And or Or, `len` of them, with a Not as one of its operands, of which the right one is at that
-- place; no node below is a site
pub record Turnable (w : ℕ) (ws : List ℕ) (right len : ℕ) : Type 0 where
  pub kind : Binary
  pub other : Binary
  pub left_operand : Expr
  pub right_operand : Expr
  pub dual : Dual kind other
  pub front : Front ws (not (binary kind left_operand right_operand))
  pub one_not : T (is_not left_operand || is_not right_operand)
  pub still : first_rewrite w (binary kind left_operand right_operand) ≡ none
  pub place : right ≡ 4 + length (encode left_operand)
  pub len_is : len ≡ length (encode (not (binary kind left_operand right_operand)))
  pub short : len ≤ 1024

-- the first word has become the number of the other one of And and Or than the third word's
pub record Turned (before after : List ℕ) : Type 0 where
  pub is : after ≡ set before 0 (dual_number (get_or before 2 0))

-- the words are those of a node of kind k, `len` of them: its left child l, which has no site, then words that are free, and from place `right`
-- on the operand o, without a site, of the Not that is to be the right child; that Not has its two words before o, unless o is a Not itself
pub record Half (w : ℕ) (k : Binary) (l o : Expr) (ws : List ℕ) (at right len : ℕ) : Type 0 where
  pub between : List ℕ
  pub rest : List ℕ
  pub words : ws ≡ binary_number k ∷ 0 ∷ (encode l ++ (between ++ (encode o ++ rest)))
  pub at_is : at ≡ 2 + length (encode l)
  pub right_is : right ≡ at + length between
  pub len_is : len ≡ right + length (encode o)
  pub short : len ≤ 1024
  pub left_operands : T (operands_ok l)
  pub operands : T (operands_ok o)
  pub left_still : first_rewrite w l ≡ none
  pub still : first_rewrite w o ≡ none
  pub free : (T (is_not o) → ⊥) → 2 ≤ length between

pub record HalfTurned (w : ℕ) (ws : List ℕ) (at right len : ℕ) : Type 0 where
  pub kind : Binary
  pub left : Expr
  pub operand : Expr
  pub half : Half w kind left operand ws at right len

-- the list of t has come to its end, after `count` rewrites, at most 4,194,304: the end tree's words, `len` of them, stand at the front, and
-- from place `reach` on the words are as they were
pub record EndsAt (w : ℕ) (t : Expr) (reach : ℕ) (before after : List ℕ) (len count : ℕ) : Type 0 where
  pub tree : Expr
  pub ends : Ends w t tree count
  pub few : count ≤ 4194304
  pub operands : T (operands_ok tree)
  pub len_is : len ≡ length (encode tree)
  pub between : List ℕ
  pub words : after ≡ encode tree ++ (between ++ drop reach before)
  pub reaches : len + length between ≡ reach

-- the same for the node that is half turned
pub record HalfEnds (w : ℕ) (before : List ℕ) (at right len : ℕ) (after : List ℕ) (n count : ℕ) : Type 0 where
  pub ends : (k : Binary) (l o : Expr) → Half w k l o before at right len → EndsAt w (binary k l (not o)) len before after n count

-- the work has room for the words of the tree that the words ws begin with
abbrev pub HasRoom : List ℕ → List ℕ → Type 0
HasRoom ws work = length (encode (tree_at ws)) ≤ length work

-- the words begin with a node's own two, as they are in the input
pub record Loaded (w : ℕ) (ws work : List ℕ) : Type 0 where
  pub rest : List ℕ
  pub words : work ≡ loaded w (get_or ws 0 0) (get_or ws 1 0) ++ rest

-- the words begin with a node of kind k and its left child l, which has no site, up to that place
pub record LeftDone (w : ℕ) (k : Binary) (l : Expr) (work : List ℕ) (at : ℕ) : Type 0 where
  pub rest : List ℕ
  pub words : work ≡ binary_number k ∷ 0 ∷ (encode l ++ rest)
  pub at_is : at ≡ 2 + length (encode l)
  pub operands : T (operands_ok l)
  pub still : first_rewrite w l ≡ none

pub record HasLeft (w : ℕ) (work : List ℕ) (at : ℕ) : Type 0 where
  pub kind : Binary
  pub left : Expr
  pub done : LeftDone w kind left work at

-- the end of the list of t stands at the front of the work, after `count` rewrites, at most 4,194,304; it has `len` words
pub record Comes (w : ℕ) (t : Expr) (before after : List ℕ) (len count : ℕ) : Type 0 where
  pub tree : Expr
  pub ends : Ends w t tree count
  pub few : count ≤ 4194304
  pub operands : T (operands_ok tree)
  pub len_is : len ≡ length (encode tree)
  pub rest : List ℕ
  pub words : after ≡ encode tree ++ rest
  pub long : length after ≡ length before

-- the same for the tree that the words ws begin with, which has `read` words
pub record IsBuilt (w : ℕ) (ws before after : List ℕ) (read len count : ℕ) : Type 0 where
  pub comes : Comes w (tree_at ws) before after len count
  pub read_is : read ≡ length (encode (tree_at ws))

-- the same for the node whose right child that tree is
pub record RightBuilt (w : ℕ) (ws : List ℕ) (at : ℕ) (before after : List ℕ) (read len count : ℕ) : Type 0 where
  pub comes : (k : Binary) (l : Expr) → LeftDone w k l before at → Comes w (binary k l (tree_at ws)) before after len count
  pub read_is : read ≡ length (encode (tree_at ws))
