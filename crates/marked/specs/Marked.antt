-- The cases that document 01 works by hand and marks to be proved: one table of tree, width and outcome. `marked` of MarkedLaws says that every row
-- holds. Definitions only.
use Rattle.std.specs.Prelude.{List, [], ◌∷◌, ℕ, zero, suc}
use Rattle.arith.specs.Arith.{sign_extended}
use Rattle.arith.specs.Bv.{bvneg}
use Rattle.expr.specs.Refusals.{carrying}
use Rattle.expr.specs.Outcome.{Outcome, refused, accepted, mapped, ◌and_then◌}
use Rattle.expr.specs.Expr.{Expr, leaf, unary, binary, encode}
use Rattle.expr.specs.declared.kind.Leaf.TheVariants.{Constant, Variable}
use Rattle.expr.specs.Parse.{parse}
use Rattle.width.specs.Width.{checked_width_of}
use Rattle.width.specs.Checked.{checked}
use Rattle.expr_cost.specs.declared.ExprCost.{ExprCost}
use Rattle.expr_cost.specs.ExprCost.{compute_cost}
use Rattle.value.specs.Value.{one_width_of, value_at}
use Rattle.rewriting.specs.Chain.{trees_of}
use Rattle.rewriting.specs.AtomIdentityRewrite.{Candidate, candidates}

-- what is asked of a tree at a width
pub data Question : Type 0 where
  -- the chain's list of trees, the input first; a tree alone has no site
  trees : Question
  -- the value at a setting
  value : List ℕ → Question
  -- the negation of that value
  negation : List ℕ → Question
  -- the candidates in their order, each as its tag and then its words
  offers : Question
  -- weight, nonlinear products, depth
  cost : Question
  -- the width with a list of the variables' widths; the width of the row is the default
  width : List ℕ → Question
  -- the word of a Constant, sign-extended from so many bits to the width of the row
  extension : ℕ → Question

-- a row of the table: the words of the tree, the widths at which the row holds, what is asked and what comes of it, as lists of words and
-- numbers
pub record Row : Type 0 where
  pub tree : List ℕ
  pub widths : List ℕ
  pub question : Question
  pub outcome : Outcome (List (List ℕ))

-- ---- the answers, by the definitions that the promises of the calls name

-- the words of each tree
unfoldable pub words : List Expr → List (List ℕ)
words [] = []
words (t ∷ ts) = encode t ∷ words ts

-- each candidate as its tag and its words
unfoldable pub offered : List Candidate → List (List ℕ)
offered [] = []
offered (c ∷ cs) = (c.tag ∷ encode c.tree) ∷ offered cs

-- one number alone
abbrev pub number : ℕ → List (List ℕ)
number n = (n ∷ []) ∷ []

-- the members of a cost
abbrev pub costs : ExprCost → List (List ℕ)
costs c = (c.weighted_size ∷ c.nonlinear_mul_count ∷ c.max_depth ∷ []) ∷ []

-- the word of a Constant, sign-extended; nothing for any other tree
abbrev pub extended : ℕ → ℕ → Expr → List (List ℕ)
extended from to (leaf (Constant c)) = number (sign_extended c from to)
extended from to (leaf (Variable i)) = []
extended from to (unary k t) = []
extended from to (binary k l r) = []

-- what comes of a question about a tree's words at a width; the chain and the value have an empty width list
unfoldable pub answer : Question → List ℕ → ℕ → Outcome (List (List ℕ))
answer trees ws w = mapped (λ t. words (trees_of w t)) (one_width_of ws w [])
answer (value σ) ws w = mapped number (one_width_of ws w [] and_then value_at w σ)
answer (negation σ) ws w = mapped (λ v. number (bvneg w v)) (one_width_of ws w [] and_then value_at w σ)
answer offers ws w = mapped (λ t. offered (candidates w t)) (checked w ws)
answer cost ws w = mapped (λ t. costs (compute_cost t).cost) (parse ws)
answer (width widths) ws w = mapped number (parse ws and_then checked_width_of widths w)
answer (extension from) ws w = mapped (extended from w) (parse ws)

-- ---- the table

-- the numbers from n down to 1
unfoldable pub down_from : ℕ → List ℕ
down_from zero = []
down_from (suc n) = suc n ∷ down_from n

-- each width from 1 to 64, for the rows for which document 01 names none
abbrev pub each_width : List ℕ
each_width = down_from 64

-- the words of the trees that are asked about; constants in the comments are hexadecimal. Kinds: 0 Constant, 1 Variable, 2 Add, 3 Mul, 4 And, 5 Or,
-- 6 Xor, 7 Not, 8 Neg, 13 Concat

-- Not(And(Not x0, x1)), the tree of `report`
abbrev pub report_tree : List ℕ
report_tree = 7 ∷ 0 ∷ 4 ∷ 0 ∷ 7 ∷ 0 ∷ 1 ∷ 0 ∷ 1 ∷ 1 ∷ []

-- And(3, 1)
abbrev pub and_3_1 : List ℕ
and_3_1 = 4 ∷ 0 ∷ 0 ∷ 3 ∷ 0 ∷ 1 ∷ []

-- And(1, 3)
abbrev pub and_1_3 : List ℕ
and_1_3 = 4 ∷ 0 ∷ 0 ∷ 1 ∷ 0 ∷ 3 ∷ []

-- Xor(x0, x0)
abbrev pub xor_x0_x0 : List ℕ
xor_x0_x0 = 6 ∷ 0 ∷ 1 ∷ 0 ∷ 1 ∷ 0 ∷ []

-- Or(x0, 1ff)
abbrev pub or_x0_1ff : List ℕ
or_x0_1ff = 5 ∷ 0 ∷ 1 ∷ 0 ∷ 0 ∷ 0x1ff ∷ []

-- And(And(0f, x0), 3c)
abbrev pub and_0f_3c : List ℕ
and_0f_3c = 4 ∷ 0 ∷ 4 ∷ 0 ∷ 0 ∷ 0x0f ∷ 1 ∷ 0 ∷ 0 ∷ 0x3c ∷ []

-- Xor(Xor(x0, 5), 5)
abbrev pub xor_5_5 : List ℕ
xor_5_5 = 6 ∷ 0 ∷ 6 ∷ 0 ∷ 1 ∷ 0 ∷ 0 ∷ 5 ∷ 0 ∷ 5 ∷ []

-- And(x0, x1) + Neg(Or(x0, x1))
abbrev pub and_less_or : List ℕ
and_less_or = 2 ∷ 0 ∷ 4 ∷ 0 ∷ 1 ∷ 0 ∷ 1 ∷ 1 ∷ 8 ∷ 0 ∷ 5 ∷ 0 ∷ 1 ∷ 0 ∷ 1 ∷ 1 ∷ []

-- Xor(x0, x1)
abbrev pub xor_x0_x1 : List ℕ
xor_x0_x1 = 6 ∷ 0 ∷ 1 ∷ 0 ∷ 1 ∷ 1 ∷ []

-- (Or(Not x0, x1) + x0) + 1
abbrev pub or_plus_1 : List ℕ
or_plus_1 = 2 ∷ 0 ∷ 2 ∷ 0 ∷ 5 ∷ 0 ∷ 7 ∷ 0 ∷ 1 ∷ 0 ∷ 1 ∷ 1 ∷ 1 ∷ 0 ∷ 0 ∷ 1 ∷ []

-- Mul(x0, x1)
abbrev pub mul_x0_x1 : List ℕ
mul_x0_x1 = 3 ∷ 0 ∷ 1 ∷ 0 ∷ 1 ∷ 1 ∷ []

-- Mul(3, x0)
abbrev pub mul_3_x0 : List ℕ
mul_3_x0 = 3 ∷ 0 ∷ 0 ∷ 3 ∷ 1 ∷ 0 ∷ []

-- Concat(x0, x1)
abbrev pub concat_x0_x1 : List ℕ
concat_x0_x1 = 13 ∷ 0 ∷ 1 ∷ 0 ∷ 1 ∷ 1 ∷ []

-- the Constant 80
abbrev pub constant_80 : List ℕ
constant_80 = 0 ∷ 0x80 ∷ []

abbrev pub row : List ℕ → List ℕ → Question → Outcome (List (List ℕ)) → Row
row ws widths q o = record { tree = ws; widths = widths; question = q; outcome = o }

-- first the rows at a width that document 01 names, then those at each width
abbrev pub table : List Row
table =
    -- becomes Or(Not(Not x0), Not x1), and that Or(x0, Not x1), which has no site
    row report_tree (8 ∷ []) trees (accepted (report_tree ∷ (5 ∷ 0 ∷ 7 ∷ 0 ∷ 7 ∷ 0 ∷ 1 ∷ 0 ∷ 7 ∷ 0 ∷ 1 ∷ 1 ∷ []) ∷ (5 ∷ 0 ∷ 1 ∷ 0 ∷ 7 ∷ 0 ∷ 1 ∷ 1 ∷ []) ∷ []))
    -- becomes 1
    ∷ row and_3_1 (64 ∷ []) trees (accepted (and_3_1 ∷ (0 ∷ 1 ∷ []) ∷ []))
    ∷ row and_3_1 (2 ∷ []) trees (accepted (and_3_1 ∷ (0 ∷ 1 ∷ []) ∷ []))
    -- has no site at width 64, and becomes 1 at width 2
    ∷ row and_1_3 (64 ∷ []) trees (accepted (and_1_3 ∷ []))
    ∷ row and_1_3 (2 ∷ []) trees (accepted (and_1_3 ∷ (0 ∷ 1 ∷ []) ∷ []))
    -- has no site: the word 1ff is not that of all ones
    ∷ row or_x0_1ff (8 ∷ []) trees (accepted (or_x0_1ff ∷ []))
    -- becomes And(x0, 0c)
    ∷ row and_0f_3c (8 ∷ []) trees (accepted (and_0f_3c ∷ (4 ∷ 0 ∷ 1 ∷ 0 ∷ 0 ∷ 0x0c ∷ []) ∷ []))
    -- is fd; its candidate is Xor(x0, x1) with tag 2, which is 3, the negation of fd: Or is the operand under Neg
    ∷ row and_less_or (8 ∷ []) (value (1 ∷ 2 ∷ [])) (accepted (number 0xfd))
    ∷ row and_less_or (8 ∷ []) offers (accepted ((2 ∷ 6 ∷ 0 ∷ 1 ∷ 0 ∷ 1 ∷ 1 ∷ []) ∷ []))
    ∷ row xor_x0_x1 (8 ∷ []) (value (1 ∷ 2 ∷ [])) (accepted (number 3))
    ∷ row and_less_or (8 ∷ []) (negation (1 ∷ 2 ∷ [])) (accepted (number 3))
    -- from width 8 to 16 is ff80
    ∷ row constant_80 (16 ∷ []) (extension 8) (accepted (number 0xff80))
    -- weight, nonlinear products, depth
    ∷ row mul_x0_x1 each_width cost (accepted ((5 ∷ 1 ∷ 2 ∷ []) ∷ []))
    ∷ row mul_3_x0 each_width cost (accepted ((3 ∷ 0 ∷ 2 ∷ []) ∷ []))
    -- of 40 and 40 bits is 10 with 80
    ∷ row concat_x0_x1 each_width (width (40 ∷ 40 ∷ [])) (refused (carrying 10 80 0))
    -- has no site
    ∷ row xor_x0_x0 each_width trees (accepted (xor_x0_x0 ∷ []))
    -- becomes x0 in one rewrite
    ∷ row xor_5_5 each_width trees (accepted (xor_5_5 ∷ (1 ∷ 0 ∷ []) ∷ []))
    -- has And(x0, x1) with the tags 4 and 6, and Xor(x1, x0) with tag 7
    ∷ row or_plus_1 each_width offers (accepted ((4 ∷ 4 ∷ 0 ∷ 1 ∷ 0 ∷ 1 ∷ 1 ∷ []) ∷ (6 ∷ 4 ∷ 0 ∷ 1 ∷ 0 ∷ 1 ∷ 1 ∷ []) ∷ (7 ∷ 6 ∷ 0 ∷ 1 ∷ 1 ∷ 1 ∷ 0 ∷ []) ∷ []))
    ∷ []
