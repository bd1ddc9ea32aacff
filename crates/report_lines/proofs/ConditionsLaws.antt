-- The highest variable of a tree, by its words. Assumes nothing.
use mathlib.Core.Path.{◌≡◌, refl, sym, ap, ap₂, ◌∙◌}
use mathlib.Core.Bool.{Bool}
use mathlib.Core.List.{List, [], ◌∷◌, ◌++◌, append_assoc, append-nil}
use Prim.Native.Nat.{ℕ, zero, suc, ◌+◌, ◌*◌, ◌/◌, ◌≤◌, ◌<◌, max}
use native.Mathlib.Nat.{not-suc-le-zero, le_of_suc-le-suc}
use native.Mathlib.Omega.{arith}
use mir.Syntax.{w64}
use mir.Val.{Fits}
use mir.Facts.{and_yes}
use lib.Dec.{T, leb→le}
use lib.ListN.{length, take, drop, get_or}
use lib.Seq.{drop-drop}
use borrow.Author.Tests.{ne_eqb, eq-eqb}
use Rattle.std.specs.Prelude.{if◌then◌else◌}
use Rattle.std.specs.Simd.{first_chunks}
use Rattle.std.proofs.lemmas.List.{get_or-take, get_or-drop}
use Rattle.expr.specs.Expr.{Expr, leaf, unary, binary, unary_number, unary_operand, binary_number, encode}
use Rattle.expr.specs.declared.kind.Leaf.TheVariants.{Constant, Variable}
use Rattle.expr.specs.declared.kind.Unary.{Unary}
use Rattle.expr.specs.declared.kind.Unary.TheVariants.{Not, Neg, Shr, ZExt, SExt, Trunc}
use Rattle.expr.specs.declared.kind.Binary.{Binary}
use Rattle.expr.specs.declared.kind.Binary.TheVariants.{Add, Mul, And, Or, Xor, Concat}
use Rattle.expr.specs.Parse.{operand_ok, operands_ok}
use Rattle.expr.specs.Front.{Exactly, Whole, tree_at}
use Rattle.report_lines.specs.Report.{conditions_of}
use Rattle.report_lines.specs.Promises.{own_conditions, highest}

-- ---- one node

module _ (found k o : ℕ) where
  pub not_variable : (k ≡ 1 → ⊥) → found ≡ max found (own_conditions k o)
  unfolding own_conditions
  not_variable n =
      let own : own_conditions k o ≡ 0 = ap (λ (b : Bool). if b then suc o else 0) (ne_eqb k 1 n) in
      omega (arith, own)

  module _ (v : k ≡ 1) where
    own : own_conditions k o ≡ suc o
    unfolding own_conditions
    own = ap (λ (b : Bool). if b then suc o else 0) (eq-eqb k 1 v)

    pub own_fits : own_conditions k o ≤ 4294967296 → Fits w64 (o + 1)
    own_fits s = omega (arith, own)

    pub own_higher : (r : ℕ) → r ≡ max found (o + 1) → r ≡ max found (own_conditions k o)
    own_higher r e = omega (arith, own)

pub ruleset one_node = (not_variable, own_fits, own_higher)

-- ---- the loop

highest_from : (ws : List ℕ) (i : ℕ) → suc i < length ws → highest (drop i ws) ≡ max (own_conditions (get_or ws i 0) (get_or ws (suc i) 0)) (highest (drop (suc (suc i)) ws))
unfolding highest
highest_from [] i h = absurd (not-suc-le-zero h)
highest_from (k ∷ []) i h = absurd (omega arith)
highest_from (k ∷ o ∷ ws) zero h = refl
highest_from (k ∷ o ∷ ws) (suc i) h = highest_from (o ∷ ws) i (le_of_suc-le-suc h)

highest_end : (ws : List ℕ) (i : ℕ) → length ws ≤ suc i → highest (drop i ws) ≡ 0
unfolding highest
highest_end [] zero h = refl
highest_end [] (suc i) h = refl
highest_end (k ∷ []) zero h = refl
highest_end (k ∷ o ∷ ws) zero h = absurd (omega arith)
highest_end (k ∷ ws) (suc i) h = highest_end ws i (le_of_suc-le-suc h)

-- node k of the words, as two of them
chunk_at : (n k : ℕ) (ws : List ℕ) → k < n → get_or (first_chunks 2 n ws) k [] ≡ take 2 (drop (2 * k) ws)
chunk_at zero k ws h = absurd (omega arith)
chunk_at (suc n) zero ws h = refl
chunk_at (suc n) (suc k) ws h = chunk_at n k (drop 2 ws) (le_of_suc-le-suc h) ∙ ap (take 2) (drop-drop (2 * k) 2 ws ∙ ap (λ (i : ℕ). drop i ws) (let e : 2 + 2 * k ≡ 2 * suc k = omega arith in e))

-- the first i nodes are counted
pub record Finding (ws : List ℕ) (found i : ℕ) : Type 0 where
  pub is : max found (highest (drop (2 * i) ws)) ≡ highest ws

module _ (ws : List ℕ) (small : highest ws ≤ 4294967296) where
  pub none_found : Finding ws 0 0
  none_found = record { is = let e : max 0 (highest ws) ≡ highest ws = omega arith in e }

  module _ (found i : ℕ) (f : Finding ws found i) where
    module _ (l : i < length ws / 2) where
      here : highest (drop (2 * i) ws) ≡ max (own_conditions (get_or ws (2 * i) 0) (get_or ws (2 * i + 1) 0)) (highest (drop (2 * (i + 1)) ws))
      here =
          highest_from ws (2 * i) (omega arith)
          ∙ ap₂ (λ (a b : ℕ). max (own_conditions (get_or ws (2 * i) 0) (get_or ws a 0)) (highest (drop b ws))) (let e : suc (2 * i) ≡ 2 * i + 1 = omega arith in e) (let e : suc (suc (2 * i)) ≡ 2 * (i + 1) = omega arith in e)

      module _ (nodes : List (List ℕ)) (e : nodes ≡ first_chunks 2 (length ws / 2) ws) where
        abbrev own_at : ℕ
        own_at = own_conditions (get_or (get_or nodes i []) 0 0) (get_or (get_or nodes i []) 1 0)

        own_is : own_at ≡ own_conditions (get_or ws (2 * i) 0) (get_or ws (2 * i + 1) 0)
        own_is =
            let n : get_or nodes i [] ≡ take 2 (drop (2 * i) ws) = ap (λ (ns : List (List ℕ)). get_or ns i []) e ∙ chunk_at (length ws / 2) i ws l in
            ap (λ (n : List ℕ). own_conditions (get_or n 0 0) (get_or n 1 0)) n ∙ ap₂ own_conditions
            (get_or-take 2 (drop (2 * i) ws) 0 0 (omega arith) ∙ get_or-drop (2 * i) ws 0 0 ∙ ap (λ (j : ℕ). get_or ws j 0) (let z : 2 * i + 0 ≡ 2 * i = omega arith in z))
            (get_or-take 2 (drop (2 * i) ws) 1 0 (omega arith) ∙ get_or-drop (2 * i) ws 1 0)

        pub own_small : own_at ≤ 4294967296
        own_small = omega (arith, f.is, here, own_is)

        pub one_found : (r : ℕ) → r ≡ max found own_at → Finding ws r (i + 1)
        one_found r g = record { is = omega (arith, f.is, here, own_is) }

    pub all_found : length ws / 2 ≤ i → found ≡ highest ws
    all_found l = omega (arith, f.is, highest_end ws (2 * i) (omega arith))

pub ruleset finding = (none_found, own_small, one_found, all_found)

-- ---- the tree

own_unary : (k : Unary) (o : ℕ) → own_conditions (unary_number k) o ≡ 0
unfolding own_conditions
own_unary Not o = refl
own_unary Neg o = refl
own_unary (Shr n) o = refl
own_unary (ZExt n) o = refl
own_unary (SExt n) o = refl
own_unary (Trunc n) o = refl

own_binary : (k : Binary) (o : ℕ) → own_conditions (binary_number k) o ≡ 0
unfolding own_conditions
own_binary Add o = refl
own_binary Mul o = refl
own_binary And o = refl
own_binary Or o = refl
own_binary Xor o = refl
own_binary Concat o = refl

highest_before : (t : Expr) (rest : List ℕ) → highest (encode t ++ rest) ≡ max (conditions_of t) (highest rest)
unfolding highest encode conditions_of own_conditions
highest_before (leaf (Constant c)) rest = refl
highest_before (leaf (Variable i)) rest = refl
highest_before (unary k t) rest = omega (arith, own_unary k (unary_operand k), highest_before t rest)
highest_before (binary k l r) rest =
    omega (arith, own_binary k 0, ap highest (append_assoc (encode l) (encode r) rest), highest_before l (encode r ++ rest), highest_before r rest)

pub highest_tree : (ws : List ℕ) (t : Expr) → Exactly ws t → highest ws ≡ conditions_of t
unfolding highest
highest_tree ws t x = ap highest (x.words ∙ sym (append-nil (encode t))) ∙ highest_before t [] ∙ omega arith

conditions_small : (t : Expr) → T (operands_ok t) → conditions_of t ≤ 4294967296
unfolding conditions_of operands_ok operand_ok
conditions_small (leaf (Constant c)) h = omega arith
conditions_small (leaf (Variable i)) h = let l : i ≤ 4294967295 = leb→le i 4294967295 h in omega arith
conditions_small (unary k t) h = conditions_small t (and_yes (operand_ok (unary_number k) (unary_operand k)) (operands_ok t) h).1
conditions_small (binary k l r) h =
    let p = and_yes (operands_ok l) (operands_ok r) h in
    omega (arith, conditions_small l p.0, conditions_small r p.1)

pub highest_small : (ws : List ℕ) → Whole ws → highest ws ≤ 4294967296
highest_small ws x = omega (arith, highest_tree ws (tree_at ws) x, conditions_small (tree_at ws) x.operands)
