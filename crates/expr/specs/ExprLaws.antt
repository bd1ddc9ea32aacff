-- The laws of trees and their words. Assumes nothing.
use Rattle.std.specs.Prelude.{◌≡◌, refl, List, [], ◌∷◌, ◌++◌, ℕ, ◌*◌, ◌≤◌, length}
use Rattle.std.proofs.Common.{sym, ap, ap₂, ◌∙◌, append_assoc, arith, length-append}
use Rattle.expr.specs.Expr.{Expr, leaf, unary, binary, encode, nodes, depth}
use Rattle.expr.specs.Parse.{Kind, none, one, two}
use Rattle.expr.specs.KindLaws.{number, operand, same_kind_lem}

pub nodes_pos : (t : Expr) → 1 ≤ nodes t
unfolding nodes
nodes_pos (leaf k) = omega arith
nodes_pos (unary k t) = omega arith
nodes_pos (binary k l r) = omega arith

pub depth_pos : (t : Expr) → 1 ≤ depth t
unfolding depth
depth_pos (leaf k) = omega arith
depth_pos (unary k t) = omega arith
depth_pos (binary k l r) = omega arith

pub depth_nodes : (t : Expr) → depth t ≤ nodes t
unfolding depth nodes
depth_nodes (leaf k) = omega arith
depth_nodes (unary k t) = omega (arith, depth_nodes t)
depth_nodes (binary k l r) = omega (arith, depth_nodes l, depth_nodes r)

pub length_encode : (t : Expr) → length (encode t) ≡ 2 * nodes t
unfolding encode nodes
length_encode (leaf k) = refl
length_encode (unary k t) = omega (arith, length_encode t)
length_encode (binary k l r) = omega (arith, length-append (encode l) (encode r), length_encode l, length_encode r)

-- ---- no tree's words begin another's

-- the first two words tell the kind
root_is : (κ μ : Kind) {xs ys : List ℕ} → ◌≡◌ {A = List ℕ} (number κ ∷ operand κ ∷ xs) (number μ ∷ operand μ ∷ ys) → κ ≡ μ
root_is κ μ e = same_kind_lem κ μ (cc) (cc)

rest_is : {x y x' y' : ℕ} {xs ys : List ℕ} → ◌≡◌ {A = List ℕ} (x ∷ y ∷ xs) (x' ∷ y' ∷ ys) → xs ≡ ys
rest_is e = cc

-- kinds with different numbers of children differ
apart : {A : Type 0} (κ μ : Kind) {xs ys : List ℕ} → ◌≡◌ {A = List ℕ} (number κ ∷ operand κ ∷ xs) (number μ ∷ operand μ ∷ ys) → (κ ≡ μ → ◌≡◌ {A = ℕ} 0 1) → A
apart κ μ e d = absurd (let z = d (root_is κ μ e) in omega arith)

pub prefix_free : (t u : Expr) (r s : List ℕ) → encode t ++ r ≡ encode u ++ s → (t ≡ u) × (r ≡ s)
unfolding encode
prefix_free (leaf k) (leaf j) r s e = let h = root_is (none k) (none j) e in let f : k ≡ j = cc in (ap leaf f, rest_is e)
prefix_free (unary k a) (unary j x) r s e =
    let h = root_is (one k) (one j) e in
    let f : k ≡ j = cc in
    let i = prefix_free a x r s (rest_is e) in
    (ap₂ unary f i.0, i.1)
prefix_free (binary k a b) (binary j x y) r s e =
    let h = root_is (two k) (two j) e in
    let f : k ≡ j = cc in
    let i = prefix_free a x (encode b ++ r) (encode y ++ s) (sym (append_assoc (encode a) (encode b) r) ∙ rest_is e ∙ append_assoc (encode x) (encode y) s) in
    let i' = prefix_free b y r s i.1 in
    ((λ d. binary (f d) (i.0 d) (i'.0 d)), i'.1)
prefix_free (leaf k) (unary j x) r s e = apart (none k) (one j) e (λ h. cc)
prefix_free (leaf k) (binary j x y) r s e = apart (none k) (two j) e (λ h. cc)
prefix_free (unary k a) (leaf j) r s e = apart (one k) (none j) e (λ h. cc)
prefix_free (unary k a) (binary j x y) r s e = apart (one k) (two j) e (λ h. cc)
prefix_free (binary k a b) (leaf j) r s e = apart (two k) (none j) e (λ h. cc)
prefix_free (binary k a b) (unary j x) r s e = apart (two k) (one j) e (λ h. cc)

pub encode_injective : (t u : Expr) → encode t ≡ encode u → t ≡ u
encode_injective t u e = (prefix_free t u [] [] (ap (λ (l : List ℕ). l ++ []) e)).0
