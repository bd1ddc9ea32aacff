-- The local rewrite of a node, from its words. Assumes nothing.
use mathlib.Core.Path.{◌≡◌, refl, sym, ap, ap₂, subst, ◌∙◌}
use mathlib.Core.Bool.{Bool, true, false, not, ◌&&◌, ◌||◌}
use mathlib.Core.List.{List, [], ◌∷◌, ◌++◌, append-nil}
use mathlib.Core.Option.{Option, none, some}
use Rattle.std.proofs.Common.{◌⊎◌, inl, inr}
use Prim.Native.Nat.{ℕ, ◌+◌}
use lib.Dec.{eqb}
use lib.ListN.{length, get_or}
use borrow.Author.Tests.{ne_eqb, eq-eqb}
use denote.Enum.Bare.{sameb}
use Rattle.std.specs.Option.{is_some}
use Rattle.std.specs.Prelude.{Some, None, if◌then◌else◌}
use Rattle.std.specs.Prelude as answered
use Rattle.expr.specs.Outcome.{accepted}
use Rattle.expr.specs.declared.kind.Leaf.{Leaf}
use Rattle.expr.specs.declared.kind.Unary.{Unary}
use Rattle.expr.specs.declared.kind.Unary.TheVariants.{Not, Neg, Shr, ZExt, SExt, Trunc}
use Rattle.expr.specs.declared.kind.Binary.{Binary}
use Rattle.expr.specs.declared.kind.Binary.TheVariants.{Add, Mul, And, Or, Xor, Concat}
use Rattle.expr.specs.declared.tree.Tree.{Tree}
use Rattle.expr.specs.Expr.{Expr, leaf, unary, binary, unary_number, unary_operand, binary_number, encode}
use Rattle.expr.specs.Parse.{arity_of}
use Rattle.expr.specs.Parse as kinds
use Rattle.expr.specs.KindLaws.{number_arity, same_binary}
use Rattle.expr.specs.Parts.{tail, part}
use Rattle.expr.specs.Front.{Exactly, Whole, tree_at, left_of, right_of}
use Rattle.expr.specs.PartLaws.{two_children}
use Rattle.expr.specs.Trees.{operand_of, optional_tree}
use Rattle.expr.specs.Optional.{only_if}
use Rattle.rewriting.specs.AtomSimplifier as def
use Rattle.rewriting.specs.AtomSimplifier.{constant, is_not_kind, is_not, same_part, kind_of, fold_rewrite, de_morgan, not_rewrite, unary_rewrite, binary_rewrite, local_rewrite}
use Rattle.atom_simplifier.specs.contracts.fold.Bitwise.{the_type}
use Rattle.atom_simplifier.specs.declared.fold.Bitwise as fold
use Rattle.atom_simplifier.specs.declared.fold.Bitwise.TheVariants as op
use Rattle.atom_simplifier.specs.declared.local.Decision.{Decision}
use Rattle.atom_simplifier.specs.declared.local.Decision.TheVariants as local
use Rattle.atom_simplifier.specs.Promises.{is_constant, bitwise_of, number_of, dual_number, Makes, Decides}
use Rattle.atom_simplifier.proofs.DecideLaws.{decides_none, decides_some, part_holds, left_holds}

-- ---- `not_rewrite`

if_none : (b : Bool) → ◌≡◌ {A = Option Expr} (if b then none else none) none
if_none true = refl
if_none false = refl

-- the tests by the operand of a Not
abbrev is_there : Option Expr → Bool
is_there none = false
is_there (some t) = true

not_operand : (t : Expr) → is_not t ≡ is_there (operand_of Not t)
unfolding operand_of
not_operand (leaf k) = refl
not_operand (unary Not t) = refl
not_operand (unary Neg t) = refl
not_operand (unary (Shr k) t) = refl
not_operand (unary (ZExt n) t) = refl
not_operand (unary (SExt n) t) = refl
not_operand (unary (Trunc n) t) = refl
not_operand (binary k l r) = refl

there_is : (p : answered.Option Tree) → is_there (optional_tree p) ≡ is_some p
there_is None = refl
there_is (Some t) = refl

-- whether the tree is a Not, from the code's test that it has no operand of one
not_tested : (t : Expr) (p : answered.Option Tree) → optional_tree p ≡ operand_of Not t → (b : Bool) → is_some p ≡ not b → is_not t ≡ not b
not_tested t p e b f = not_operand t ∙ ap is_there (sym e) ∙ there_is p ∙ f

no_not_kind : (k : Unary) → (k ≡ Not → ⊥) → is_not_kind k ≡ false
no_not_kind Not f = absurd (f refl)
no_not_kind Neg f = refl
no_not_kind (Shr n) f = refl
no_not_kind (ZExt n) f = refl
no_not_kind (SExt n) f = refl
no_not_kind (Trunc n) f = refl

other_kind : (k : Binary) → (k ≡ And → ⊥) → (k ≡ Or → ⊥) → (a b : Expr) → not_rewrite (binary k a b) ≡ none
unfolding not_rewrite
other_kind Add f g a b = if_none (is_not a || is_not b)
other_kind Mul f g a b = if_none (is_not a || is_not b)
other_kind And f g a b = absurd (f refl)
other_kind Or f g a b = absurd (g refl)
other_kind Xor f g a b = if_none (is_not a || is_not b)
other_kind Concat f g a b = if_none (is_not a || is_not b)

-- by the kind word
other_word : (t : Expr) → (get_or (encode t) 0 0 ≡ 7 → ⊥) → (get_or (encode t) 0 0 ≡ 4 → ⊥) → (get_or (encode t) 0 0 ≡ 5 → ⊥) → not_rewrite t ≡ none
unfolding not_rewrite encode
other_word (leaf k) f g h = refl
other_word (unary k t) f g h = ap (λ (b : Bool). only_if b t) (no_not_kind k (λ e. f (ap unary_number e)))
other_word (binary k a b) f g h = other_kind k (λ e. g (ap binary_number e)) (λ e. h (ap binary_number e)) a b

-- And or Or, and what De Morgan makes of it
record Over (k : Binary) : Type 0 where
  other : Binary
  number : dual_number (binary_number k) ≡ binary_number other
  turned : (a b : Expr) → de_morgan k a b ≡ some (binary other (def.not a) (def.not b))

over_dual : (k : Binary) → (k ≡ And) ⊎ (k ≡ Or) → Over k
over_dual k (inl e) = subst Over (sym e) (record { other = Or; number = refl; turned = λ a b. refl })
over_dual k (inr e) = subst Over (sym e) (record { other = And; number = refl; turned = λ a b. refl })

-- the words below the Not
module _ (bs : List ℕ) (x : Whole bs) where
  pub leaf_below : (k : Leaf) → leaf k ≡ tree_at bs → Decides (7 ∷ 0 ∷ bs) None (not_rewrite (tree_at bs))
  unfolding not_rewrite
  leaf_below k e = decides_none _ _ (ap not_rewrite (sym e))

  pub no_rule : (get_or bs 0 0 ≡ 7 → ⊥) → (get_or bs 0 0 ≡ 4 → ⊥) → (get_or bs 0 0 ≡ 5 → ⊥) → Decides (7 ∷ 0 ∷ bs) None (not_rewrite (tree_at bs))
  no_rule f g h =
      let first : get_or bs 0 0 ≡ get_or (encode (tree_at bs)) 0 0 = ap (λ (us : List ℕ). get_or us 0 0) x.words in
      decides_none _ _ (other_word (tree_at bs) (λ e. f (first ∙ e)) (λ e. g (first ∙ e)) (λ e. h (first ∙ e)))

  module _ (k : Unary) (os : List ℕ) (y : Whole os) (e : unary k (tree_at os) ≡ tree_at bs) where
    pub no_double : (k ≡ Not → ⊥) → Decides (7 ∷ 0 ∷ bs) None (not_rewrite (tree_at bs))
    unfolding not_rewrite
    no_double f = decides_none _ _ (ap not_rewrite (sym e) ∙ ap (λ (b : Bool). only_if b (tree_at os)) (no_not_kind k f))

    pub double_goes : k ≡ Not → Decides (7 ∷ 0 ∷ bs) (Some (local.Part 4 (length os))) (not_rewrite (tree_at bs))
    unfolding Makes not_rewrite encode
    double_goes f =
        let words : bs ≡ 7 ∷ 0 ∷ os =
        x.words ∙ ap encode (sym e)
        ∙ ap (λ (j : Unary). unary_number j ∷ unary_operand j ∷ encode (tree_at os)) f
        ∙ ap (λ (us : List ℕ). 7 ∷ 0 ∷ us) (sym y.words)
        in
        let behind : 7 ∷ 0 ∷ bs ≡ 7 ∷ 0 ∷ 7 ∷ 0 ∷ (os ++ []) = ap (λ (us : List ℕ). 7 ∷ 0 ∷ us) (words ∙ ap (λ (us : List ℕ). 7 ∷ 0 ∷ us) (sym (append-nil os))) in
        decides_some (7 ∷ 0 ∷ bs) (local.Part 4 (length os)) _ (tree_at os)
        (ap not_rewrite (sym e) ∙ ap (λ (j : Unary). only_if (is_not_kind j) (tree_at os)) f)
        (part_holds (7 ∷ 0 ∷ bs) os 4 (record { prefix = 7 ∷ 0 ∷ 7 ∷ 0 ∷ []; suffix = []; words = behind; place = refl }) 2 refl (tree_at os) y)

  module _ (k : Binary) (ls rs : List ℕ) (y : Whole ls) (e : binary k (tree_at ls) (tree_at rs) ≡ tree_at bs) where
    pub no_dual : (k ≡ And → ⊥) → (k ≡ Or → ⊥) → Decides (7 ∷ 0 ∷ bs) None (not_rewrite (tree_at bs))
    no_dual f g = decides_none _ _ (ap not_rewrite (sym e) ∙ other_kind k f g (tree_at ls) (tree_at rs))

    turns : (k ≡ And) ⊎ (k ≡ Or) → (is_not (tree_at ls) || is_not (tree_at rs)) ≡ true → Decides (7 ∷ 0 ∷ bs) (Some (local.DeMorgan (4 + length ls))) (not_rewrite (tree_at bs))
    unfolding Makes not_rewrite encode
    turns d f =
        let o = over_dual k d in
        decides_some (7 ∷ 0 ∷ bs) (local.DeMorgan (4 + length ls)) _ (binary o.other (def.not (tree_at ls)) (def.not (tree_at rs)))
        (ap not_rewrite (sym e) ∙ ap (λ (b : Bool). if b then de_morgan k (tree_at ls) (tree_at rs) else none) f ∙ o.turned (tree_at ls) (tree_at rs))
        (record {
          kind = k;
          other = o.other;
          left_operand = tree_at ls;
          right_operand = tree_at rs;
          was = ap (λ (us : List ℕ). 7 ∷ 0 ∷ us) (x.words ∙ ap encode (sym e));
          is = refl;
          number = o.number;
          place = ap (λ (us : List ℕ). 4 + length us) y.words;
        })

    module _ (p : answered.Option Tree) (f : optional_tree p ≡ operand_of Not (tree_at ls)) (b : Bool) (g : is_some p ≡ not b) where
      pub left_not : b ≡ false → (k ≡ And) ⊎ (k ≡ Or) → Decides (7 ∷ 0 ∷ bs) (Some (local.DeMorgan (4 + length ls))) (not_rewrite (tree_at bs))
      left_not h d = turns d (ap (λ (c : Bool). c || is_not (tree_at rs)) (not_tested (tree_at ls) p f b g ∙ ap not h))

      module _ (h : b ≡ true) (q : answered.Option Tree) (i : optional_tree q ≡ operand_of Not (tree_at rs)) (c : Bool) (j : is_some q ≡ not c) where
        tests : (is_not (tree_at ls) || is_not (tree_at rs)) ≡ not c
        tests =
            ap (λ (d : Bool). d || is_not (tree_at rs)) (not_tested (tree_at ls) p f b g ∙ ap not h)
            ∙ not_tested (tree_at rs) q i c j

        pub right_not : c ≡ false → (k ≡ And) ⊎ (k ≡ Or) → Decides (7 ∷ 0 ∷ bs) (Some (local.DeMorgan (4 + length ls))) (not_rewrite (tree_at bs))
        right_not l d = turns d (tests ∙ ap not l)

        pub neither_not : c ≡ true → Decides (7 ∷ 0 ∷ bs) None (not_rewrite (tree_at bs))
        unfolding not_rewrite
        neither_not l =
            decides_none _ _ (ap not_rewrite (sym e) ∙ ap (λ (d : Bool). if d then de_morgan k (tree_at ls) (tree_at rs) else none) (tests ∙ ap not l))

-- ---- a node with one child

module _ (k : Unary) (cs : List ℕ) (x : Whole cs) where
  pub not_decides : k ≡ Not → (r : answered.Option Decision) → Decides (7 ∷ 0 ∷ cs) r (not_rewrite (tree_at cs))
      → (w : ℕ) → Decides (unary_number k ∷ unary_operand k ∷ cs) r (local_rewrite w (unary k (tree_at cs)))
  unfolding local_rewrite unary_rewrite
  not_decides f r d w = subst (λ (j : Unary). Decides (unary_number j ∷ unary_operand j ∷ cs) r (local_rewrite w (unary j (tree_at cs)))) (sym f) d

  module _ (n : ℕ) (f : k ≡ Shr n) where
    shifted : (w : ℕ) → local_rewrite w (unary k (tree_at cs)) ≡ only_if (eqb n 0) (tree_at cs)
    unfolding local_rewrite unary_rewrite
    shifted w = ap (λ (j : Unary). local_rewrite w (unary j (tree_at cs))) f

    pub shift_stays : (n ≡ 0 → ⊥) → (w : ℕ) → Decides (unary_number k ∷ unary_operand k ∷ cs) None (local_rewrite w (unary k (tree_at cs)))
    shift_stays g w = decides_none _ _ (shifted w ∙ ap (λ (b : Bool). only_if b (tree_at cs)) (ne_eqb n 0 g))

    pub shift_goes : n ≡ 0 → (w : ℕ) → Decides (unary_number k ∷ unary_operand k ∷ cs) (Some (local.Part 2 (length cs))) (local_rewrite w (unary k (tree_at cs)))
    unfolding Makes
    shift_goes g w =
        let ws : List ℕ = unary_number k ∷ unary_operand k ∷ cs in
        let behind : ws ≡ unary_number k ∷ unary_operand k ∷ (cs ++ []) = ap (λ (us : List ℕ). unary_number k ∷ unary_operand k ∷ us) (sym (append-nil cs)) in
        decides_some ws (local.Part 2 (length cs)) _ (tree_at cs) (shifted w ∙ ap (λ (b : Bool). only_if b (tree_at cs)) (eq-eqb n 0 g))
        (part_holds ws cs 2 (record { prefix = unary_number k ∷ unary_operand k ∷ []; suffix = []; words = behind; place = refl }) 1 refl (tree_at cs) x)

other_unary : (k : Unary) (t : Expr) → (k ≡ Not → ⊥) → ((n : ℕ) → k ≡ Shr n → ⊥) → unary_rewrite k t ≡ none
unfolding unary_rewrite
other_unary Not t f g = absurd (f refl)
other_unary Neg t f g = refl
other_unary (Shr n) t f g = absurd (g n refl)
other_unary (ZExt n) t f g = refl
other_unary (SExt n) t f g = refl
other_unary (Trunc n) t f g = refl

pub other_stays : (k : Unary) (cs : List ℕ) → (k ≡ Not → ⊥) → ((n : ℕ) → k ≡ Shr n → ⊥)
    → (w : ℕ) → Decides (unary_number k ∷ unary_operand k ∷ cs) None (local_rewrite w (unary k (tree_at cs)))
unfolding local_rewrite
other_stays k cs f g w = decides_none _ _ (other_unary k (tree_at cs) f g)

-- ---- a node with two children

other_binary : (w : ℕ) (k : Binary) (l r : Expr) → (binary_number k ≡ 4 → ⊥) → (binary_number k ≡ 5 → ⊥) → (binary_number k ≡ 6 → ⊥) → binary_rewrite w k l r ≡ none
unfolding binary_rewrite
other_binary w Add l r e f g = refl
other_binary w Mul l r e f g = refl
other_binary w And l r e f g = absurd (e refl)
other_binary w Or l r e f g = absurd (f refl)
other_binary w Xor l r e f g = absurd (g refl)
other_binary w Concat l r e f g = refl

-- the kind has no rule
pub binary_stays : (node : List ℕ) (t : Expr) → Exactly node t → arity_of (get_or node 0 0) ≡ accepted 2 → ((o : fold.Bitwise) → get_or node 0 0 ≡ number_of o → ⊥)
    → (w : ℕ) → Decides node None (local_rewrite w t)
unfolding local_rewrite
binary_stays node t x a f w =
    let m = two_children node t x a in
    decides_none node _
    (ap (local_rewrite w) m.is
    ∙ other_binary w m.kind (left_of t) (right_of t) (λ i. f op.And (m.number_is ∙ i)) (λ i. f op.Or (m.number_is ∙ i)) (λ i. f op.Xor (m.number_is ∙ i)))

-- the tests, as the code makes them
abbrev pub equal_operands : ℕ → fold.Bitwise → Expr → Expr → Bool
equal_operands w o l r = not (sameb the_type o op.Xor) && same_part w l r

abbrev pub three_one : ℕ → fold.Bitwise → Expr → Expr → Bool
three_one w o l r = sameb the_type o op.And && (is_constant w l 3 && is_constant w r 1)

abbrev by_tests : ℕ → fold.Bitwise → Expr → Expr → Option Expr
by_tests w o l r = if equal_operands w o l r then some l else if three_one w o l r then some (constant 1) else fold_rewrite w (bitwise_of o) l r

tested : (w : ℕ) (o : fold.Bitwise) (l r : Expr) → binary_rewrite w (kind_of (bitwise_of o)) l r ≡ by_tests w o l r
unfolding binary_rewrite is_constant
tested w op.And l r = refl
tested w op.Or l r = refl
tested w op.Xor l r = refl

module _ (w : ℕ) (o : fold.Bitwise) (l r : Expr) where
  module _ (n : Bool) (e : n ≡ not (sameb the_type o op.Xor)) where
    pub one_kind : n ≡ false → equal_operands w o l r ≡ false
    one_kind f = ap (λ (b : Bool). b && same_part w l r) (sym e ∙ f)

    pub same_tested : n ≡ true → (s : Bool) → s ≡ same_part w l r → (c : Bool) → s ≡ c → equal_operands w o l r ≡ c
    same_tested f s g c h = ap (λ (b : Bool). b && same_part w l r) (sym e ∙ f) ∙ sym g ∙ h

  module _ (n : Bool) (e : n ≡ sameb the_type o op.And) where
    pub no_and : n ≡ false → three_one w o l r ≡ false
    no_and f = ap (λ (b : Bool). b && (is_constant w l 3 && is_constant w r 1)) (sym e ∙ f)

    module _ (f : n ≡ true) (p : Bool) (g : p ≡ is_constant w l 3) where
      pub no_three : p ≡ false → three_one w o l r ≡ false
      no_three h = ap₂ (λ (b c : Bool). b && (c && is_constant w r 1)) (sym e ∙ f) (sym g ∙ h)

      pub one_tested : p ≡ true → (q : Bool) → q ≡ is_constant w r 1 → (c : Bool) → q ≡ c → three_one w o l r ≡ c
      one_tested h q i c j = ap₂ (λ (b d : Bool). b && (d && is_constant w r 1)) (sym e ∙ f) (sym g ∙ h) ∙ sym i ∙ j

module _ (node : List ℕ) (t : Expr) (x : Exactly node t) (a : arity_of (get_or node 0 0) ≡ accepted 2) (o : fold.Bitwise) (b : get_or node 0 0 ≡ number_of o) (w : ℕ) (l r : Expr) (f : l ≡ left_of t) (g : r ≡ right_of t) where
  root_is : local_rewrite w t ≡ by_tests w o l r
  unfolding local_rewrite
  root_is =
      let m = two_children node t x a in
      ap (local_rewrite w) m.is
      ∙ ap (λ (k : Binary). binary_rewrite w k (left_of t) (right_of t)) (same_binary m.kind (kind_of (bitwise_of o)) (sym m.number_is ∙ b))
      ∙ tested w o (left_of t) (right_of t)
      ∙ ap₂ (by_tests w o) (sym f) (sym g)

  pub equal_decides : equal_operands w o l r ≡ true → (d : Decision) → Makes node d (left_of t) → Decides node (Some d) (local_rewrite w t)
  equal_decides e d m =
      let s : by_tests w o l r ≡ some l = rw e in
      decides_some node d _ (left_of t) (root_is ∙ s ∙ ap (λ (u : Expr). some u) f) m

  module _ (e : equal_operands w o l r ≡ false) where
    pub three_one_decides : three_one w o l r ≡ true → Decides node (Some (local.Constant 1)) (local_rewrite w t)
    unfolding Makes
    three_one_decides h = decides_some node (local.Constant 1) _ (constant 1) (root_is ∙ simp (e, h)) refl

    pub fold_decides : three_one w o l r ≡ false → (d : answered.Option Decision) → Decides node d (fold_rewrite w (bitwise_of o) (left_of t) (right_of t)) → Decides node d (local_rewrite w t)
    fold_decides h d m =
        let s : by_tests w o l r ≡ fold_rewrite w (bitwise_of o) l r = simp (e, h) in
        subst (Decides node d) (sym (root_is ∙ s ∙ ap₂ (fold_rewrite w (bitwise_of o)) f g)) m

-- the left operand takes the node's place
pub left_goes : (node : List ℕ) (t : Expr) → Exactly node t → arity_of (get_or node 0 0) ≡ accepted 2 → (right : ℕ) → right ≡ 2 + length (encode (left_of t))
    → (ls rs : List ℕ) → ls ≡ part 2 right node → rs ≡ tail right node → (n : ℕ) → n ≡ 2 → (d : Decision) → d ≡ local.Part n (length ls) → Makes node d (left_of t)
unfolding Makes
left_goes node t x a right q ls rs f g n i d e =
    subst (λ (r : Decision). Makes node r (left_of t)) (sym (e ∙ ap (λ (m : ℕ). local.Part m (length ls)) i)) (left_holds node t x a right q ls rs f g)

-- ---- the root

module _ (ws : List ℕ) (x : Whole ws) where
  pub leaf_stays : (k : Leaf) → leaf k ≡ tree_at ws → (w : ℕ) → Decides ws None (local_rewrite w (tree_at ws))
  unfolding local_rewrite
  leaf_stays k e w = decides_none ws _ (ap (local_rewrite w) (sym e))

  pub unary_decides : (k : Unary) (cs : List ℕ) → Whole cs → unary k (tree_at cs) ≡ tree_at ws → (r : answered.Option Decision)
      → ((v : ℕ) → Decides (unary_number k ∷ unary_operand k ∷ cs) r (local_rewrite v (unary k (tree_at cs)))) → (w : ℕ) → Decides ws r (local_rewrite w (tree_at ws))
  unfolding encode
  unary_decides k cs y e r d w =
      let words : unary_number k ∷ unary_operand k ∷ cs ≡ ws =
      ap (λ (us : List ℕ). unary_number k ∷ unary_operand k ∷ us) y.words ∙ ap encode e ∙ sym x.words
      in
      subst (λ (us : List ℕ). Decides us r (local_rewrite w (tree_at ws))) words
      (subst (λ (t : Expr). Decides (unary_number k ∷ unary_operand k ∷ cs) r (local_rewrite w t)) e (d w))

  module _ (k : Binary) (ls : List ℕ) (r : Expr) (e : binary k (tree_at ls) r ≡ tree_at ws) where
    pub binary_arity : arity_of (get_or ws 0 0) ≡ accepted 2
    unfolding encode
    binary_arity = ap (λ (us : List ℕ). arity_of (get_or us 0 0)) (x.words ∙ ap encode (sym e)) ∙ number_arity (kinds.two k)

    pub right_place : Whole ls → 2 + length ls ≡ 2 + length (encode (left_of (tree_at ws)))
    right_place y = ap (λ (us : List ℕ). 2 + length us) y.words ∙ ap (λ (t : Expr). 2 + length (encode (left_of t))) e

-- ---- by function

pub ruleset not_rule = (no_rule, leaf_below, no_double, double_goes, no_dual, left_not, right_not, neither_not)

pub ruleset unary_rule = (not_decides, shift_stays, shift_goes, other_stays)

pub ruleset root_rule = (leaf_stays, unary_decides, binary_arity, right_place)
