-- The fold calls itself as the Rust's does; and the one induction by which a property of the fold is proved. Assumes nothing.
use Rattle.std.specs.Prelude.{◌≡◌, ℕ, if◌then◌else◌}
use Rattle.std.proofs.Math.Path.{refl, sym}
use Rattle.std.proofs.Common.{ap₂, subst}
use Rattle.std.proofs.Math.Option.{Option, none, some}
use Rattle.expr.specs.Expr.{Expr, leaf, unary, binary}
use Rattle.expr.specs.declared.kind.Binary.{Binary}
use Rattle.expr.specs.Optional.{map, ◌and_then◌, ◌or_else◌, ◌otherwise◌}
use Rattle.expr.specs.OptionalLaws.{Every, if_case, otherwise_case, every_on, every_or_else, every_map, every_and_then}
use Rattle.rewriting.specs.AtomSimplifier.{constant, constant_val, Bitwise, kind_of, arms, folded_word, reassociate_constant, try_fold_binary}
use Rattle.expr.specs.Trees.{same_kind}
use Rattle.rewriting.specs.TestLaws.{same_kind→eq, constant_val→eq}

-- the node that is folded
abbrev pub node : Bitwise → Expr → Expr → Expr
node op l r = binary (kind_of op) l r

module _ (w : ℕ) where
  -- ---- the Rust's recursion

  -- what reassociation answers for an operand and the folded constant is the fold of the two: the constant has no operands, so that the
  -- fold's second reassociation never gives anything
  pub fold_again : (op : Bitwise) (l : Expr) (e : ℕ) → (reassociate_constant w op l e otherwise arms w op l (constant e)) ≡ try_fold_binary w op l (constant e)
  unfolding try_fold_binary reassociate_constant
  fold_again op l e = go (reassociate_constant w op l e) (constant_val w l)
    where
      go : (o : Option Expr) (c : Option ℕ) → (o otherwise arms w op l (constant e)) ≡ ((o or_else c and_then reassociate_constant w op (constant e)) otherwise arms w op l (constant e))
      go none none = refl
      go none (some c) = refl
      go (some u) c = refl

  -- so the definition calls the fold where the Rust's `reassociate_constant` does
  pub reassociate_is : (op : Bitwise) (k : Binary) (l r : Expr) (c : ℕ)
      → reassociate_constant w op (binary k l r) c
      ≡ (if same_kind k (kind_of op) then
      (map (λ d. try_fold_binary w op l (constant (folded_word w op d c))) (constant_val w r)
      or_else map (λ d. try_fold_binary w op r (constant (folded_word w op d c))) (constant_val w l))
      else none)
  unfolding reassociate_constant
  reassociate_is op k l r c = λ i.
      if same_kind k (kind_of op) then
      (map (λ d. fold_again op l (folded_word w op d c) i) (constant_val w r)
      or_else map (λ d. fold_again op r (folded_word w op d c) i) (constant_val w l))
      else none

  -- ---- the induction

  -- what makes R hold between each node and its fold; S, which may say more, is to hold between a node and what reassociation makes of it
  pub record Folding (op : Bitwise) (R S : Expr → Expr → Type 0) : Type 0 where
    pub arm : (l r : Expr) → R (node op l r) (arms w op l r)
    -- from `x op (d op c)` to `(x op d) op c` and to `(d op x) op c`
    pub right : (x : Expr) (d c : ℕ) (u : Expr) → R (node op x (constant (folded_word w op d c))) u → S (node op (node op x (constant d)) (constant c)) u
    pub left : (x : Expr) (d c : ℕ) (u : Expr) → R (node op x (constant (folded_word w op d c))) u → S (node op (node op (constant d) x) (constant c)) u
    pub swapped : (l r u : Expr) → S (node op r l) u → S (node op l r) u
    pub weaker : (t u : Expr) → S t u → R t u

  module _ (op : Bitwise) {R S : Expr → Expr → Type 0} (f : Folding op R S) where
    -- the fold of a tree and a constant
    again : (t : Expr) (c : ℕ) → Every (S (node op t (constant c))) (reassociate_constant w op t c)
        → R (node op t (constant c)) (reassociate_constant w op t c otherwise arms w op t (constant c))
    again t c h =
        let n = node op t (constant c) in
        otherwise_case (R n) (reassociate_constant w op t c) (every_on (S n) (R n) (reassociate_constant w op t c) (f.weaker n) h) (f.arm t (constant c))

    -- an equal tree under the outer node
    inside : {s t : Expr} (c : ℕ) {u : Expr} → s ≡ t → S (node op s (constant c)) u → S (node op t (constant c)) u
    inside c {u} e h = subst (λ (s : Expr). S (node op s (constant c)) u) e h

    reassociated : (t : Expr) (c : ℕ) → Every (S (node op t (constant c))) (reassociate_constant w op t c)
    unfolding reassociate_constant
    reassociated (leaf k) c = tt
    reassociated (unary k t) c = tt
    reassociated (binary k l r) c =
        let Q = S (node op (binary k l r) (constant c)) in
        if_case (Every Q) (same_kind k (kind_of op))
        (λ h. let same = sym (same_kind→eq k (kind_of op) h) in
        every_or_else Q (map _ (constant_val w r)) _
        (every_map Q (constant_val w r) (λ d e. let n = folded_word w op d c in
        inside c (ap₂ (λ (j : Binary) (s : Expr). binary j l s) same (sym (constant_val→eq w r d e))) (f.right l d c _ (again l n (reassociated l n)))))
        (every_map Q (constant_val w l) (λ d e. let n = folded_word w op d c in
        inside c (ap₂ (λ (j : Binary) (s : Expr). binary j s r) same (sym (constant_val→eq w l d e))) (f.left r d c _ (again r n (reassociated r n))))))
        tt

    pub at_reassociation : (l r : Expr) → Every (S (node op l r)) (constant_val w r and_then reassociate_constant w op l or_else constant_val w l and_then reassociate_constant w op r)
    at_reassociation l r =
        let n = node op l r in
        every_or_else (S n) (constant_val w r and_then reassociate_constant w op l) (constant_val w l and_then reassociate_constant w op r)
        (every_and_then (S n) (constant_val w r) (reassociate_constant w op l) (λ c e.
        subst (λ (t : Expr). Every (S (node op l t)) (reassociate_constant w op l c)) (sym (constant_val→eq w r c e)) (reassociated l c)))
        (every_and_then (S n) (constant_val w l) (reassociate_constant w op r) (λ c e.
        every_on (S (node op r l)) (S n) (reassociate_constant w op r c) (f.swapped l r)
        (subst (λ (t : Expr). Every (S (node op r t)) (reassociate_constant w op r c)) (sym (constant_val→eq w l c e)) (reassociated r c))))

    pub at_fold : (l r : Expr) → R (node op l r) (try_fold_binary w op l r)
    unfolding try_fold_binary
    at_fold l r =
        let n = node op l r in
        let found = constant_val w r and_then reassociate_constant w op l or_else constant_val w l and_then reassociate_constant w op r in
        otherwise_case (R n) found (every_on (S n) (R n) found (f.weaker n) (at_reassociation l r)) (f.arm l r)
