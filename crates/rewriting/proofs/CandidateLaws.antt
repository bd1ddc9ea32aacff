-- Every candidate of a node meets its claims: the values are from `IdentityLaws`, and the measures go by the shape that all candidates have.
-- Assumes nothing.
use Rattle.std.specs.Prelude.{◌≡◌, refl, Bool, true, false, ◌&&◌, T}
use Rattle.std.proofs.Common.{subst, arith}
use Rattle.std.proofs.Math.Bool.{and-eq-true_iff}
use Rattle.std.proofs.Math.Bool as bool
use mathlib.Core.List.{List, [], ◌∷◌, ◌++◌}
use Rattle.std.proofs.Math.Option.{Option, none, some}
use Prim.Native.Nat.{ℕ, zero, suc, ◌≤◌, ◌<◌}
use Rattle.expr.specs.Outcome.{accepted}
use Rattle.expr.specs.Expr.{Expr, leaf, unary, binary, encode, nodes, depth}
use Rattle.expr.specs.declared.kind.Unary.TheVariants.{Neg}
use Rattle.expr.specs.declared.kind.Binary.{Binary}
use Rattle.expr.specs.declared.kind.Binary.TheVariants.{Add, And, Or, Xor}
use Rattle.expr.specs.ExprLaws.{nodes_pos}
use Rattle.expr.specs.Parse.{operand_ok, operands_ok, parse}
use Rattle.expr.specs.ParseLaws.{parse_sound, parse_encode}
use Rattle.value.specs.Value.{value, is_lent, one_width_of}
use Rattle.value.specs.ValueLaws.{one_width_sound, one_width_complete}
use Rattle.width.specs.Width.{binary_keeps, is_uniform_width}
use Rattle.expr.specs.Optional.{map, ◌or_else◌}
use Rattle.expr.specs.OptionalLaws.{Every, if_case, every_or_else, every_at, every_on, every_map_on}
use Rattle.rewriting.specs.AtomSimplifier.{not}
use Rattle.expr.specs.Trees.{same_kind, operands_of}
use Rattle.rewriting.specs.Measures.{occurrences}
use Rattle.rewriting.specs.AtomIdentityRewrite.{operand_of_not, is_neg_kind, match_xor_and_absorb, match_xor_via_or_minus_and, match_and_via_not_or_minus_not, Addend, push_addend, flatten_addends, is_constant_node, or_in_product, match_and_via_not_or_plus_a_plus_one, match_xor_via_ornot_flat, to_list, lax_and_of, lax_xor_of, of_operands, lax_and, lax_xor, each, is_add, Candidate, tagged, lax_candidates, candidates}
use Rattle.rewriting.specs.CandidateClaims.{numbered, keeps_value, is_signed, Claim}
use Rattle.rewriting.specs.ShapeLaws.{◌⊑◌, as_it_is, child, left, right, both, swapped, in_turn, Less, less_left}
use Rattle.rewriting.specs.MeasureLaws.{cut_nodes, cut_depth}
use Rattle.rewriting.specs.KeptLaws.{cut_variables, cut_uniform, cut_operands, cut_lent, valid_kept}
use Rattle.rewriting.specs.MatchLaws.{operands, operand_not, Absorbs, absorbs, found_1, Minus, or_and, or_not, Differs, or_first, or_second, found_2, found_3, Insert, here, there, Product, product, or_in_product_lem, PlusOne, plus_one, found_4, OrNotFlat, or_not_flat, found_5}
use Rattle.rewriting.specs.IdentityLaws.{absorbs_value, Signed, differs_value, plus_one_value, or_not_flat_value}

-- ---- the shape of a candidate

-- over the operands of an Or to which t is cut down, with fewer nodes; or `x & !y`, where t is cut down to `x ^ (x & y)`
data Shape (t : Expr) : Expr → Type 0 where
  of_or : {k : Binary} {a b : Expr} → binary_keeps k ≡ true → Less t (binary Or a b) → Shape t (binary k a b)
  of_xor : {x y : Expr} → binary Xor x (binary And x y) ⊑ t → Shape t (binary And x (not y))

shape_nodes : {t u : Expr} → Shape t u → nodes u < nodes t
unfolding nodes
shape_nodes (of_or k h) = h.fewer
shape_nodes (of_xor {x} h) = omega (arith, nodes_pos x, cut_nodes h)

shape_depth : {t u : Expr} → Shape t u → depth u ≤ depth t
unfolding depth
shape_depth (of_or k h) = cut_depth h.cut
shape_depth (of_xor h) = omega (arith, cut_depth h)

shape_variables : (i : ℕ) {t u : Expr} → Shape t u → occurrences i u ≤ occurrences i t
unfolding occurrences
shape_variables i (of_or k h) = cut_variables i h.cut
shape_variables i (of_xor h) = omega (arith, cut_variables i h)

shape_uniform : (widths : List ℕ) (v : ℕ) {t u : Expr} → Shape t u → is_uniform_width widths v t ≡ true → is_uniform_width widths v u ≡ true
unfolding is_uniform_width
shape_uniform widths v (of_or {k} {a} {b} e h) g =
    (and-eq-true_iff (binary_keeps k) (is_uniform_width widths v a && is_uniform_width widths v b)).1 (e, cut_uniform widths v h.cut g)
shape_uniform widths v (of_xor {x} {y} h) g =
    ((and-eq-true_iff (is_uniform_width widths v x) (is_uniform_width widths v x && is_uniform_width widths v y)).0 (cut_uniform widths v h g)).1

shape_operands : {t u : Expr} → Shape t u → operands_ok t ≡ true → operands_ok u ≡ true
unfolding operands_ok operand_ok
shape_operands (of_or k h) g = cut_operands h.cut g
shape_operands (of_xor {x} {y} h) g = ((and-eq-true_iff (operands_ok x) (operands_ok x && operands_ok y)).0 (cut_operands h g)).1

shape_lent : (σ : List ℕ) {t u : Expr} → Shape t u → is_lent σ t ≡ true → is_lent σ u ≡ true
unfolding is_lent
shape_lent σ (of_or k h) g = cut_lent σ h.cut g
shape_lent σ (of_xor {x} {y} h) g = ((and-eq-true_iff (is_lent σ x) (is_lent σ x && is_lent σ y)).0 (cut_lent σ h g)).1

shape_tree : {t u : Expr} → Shape t u → parse (encode t) ≡ accepted t → parse (encode u) ≡ accepted u
shape_tree {t} {u} h e =
    let v = (parse_sound (encode t) t e).valid in
    parse_encode u (valid_kept (shape_depth h) (shape_operands h) v (omega (arith, shape_nodes h, v.count)))

shape_one_width : (w : ℕ) (widths : List ℕ) {t u : Expr} → Shape t u → one_width_of (encode t) w widths ≡ accepted t → one_width_of (encode u) w widths ≡ accepted u
shape_one_width w widths {t} {u} h e =
    let o = one_width_sound (encode t) w widths t e in
    one_width_complete (encode u) w widths u (record {
      parsed = shape_tree h o.parsed;
      is_uniform = shape_uniform widths w h o.is_uniform;
      at_least = o.at_least;
      at_most = o.at_most;
    })

-- ---- less than a node

less_in : {s t u : Expr} → Less s u → s ⊑ t → Less t u
less_in h g = record { cut = in_turn h.cut g; fewer = omega (arith, h.fewer, cut_nodes g) }

-- an Or without the Not on its left, or on its right
without_left : {a b t : Expr} → binary Or (not a) b ⊑ t → Less t (binary Or a b)
unfolding nodes
without_left h = less_in (record { cut = both child as_it_is; fewer = omega arith }) h

without_right : {a b t : Expr} → binary Or a (not b) ⊑ t → Less t (binary Or a b)
unfolding nodes
without_right h = less_in (record { cut = both as_it_is child; fewer = omega arith }) h

-- ---- tags 1 to 3

absorbs_shape : {t u : Expr} → Absorbs t u → Shape t u
absorbs_shape (absorbs h) = of_xor h.cut

minus_shape : {t o n u : Expr} → Less t o → Minus o n u → Shape t u
minus_shape l (or_and h) = of_or refl l
minus_shape l (or_not h) = of_or refl (without_left (in_turn h.cut l.cut))

differs_shape : {t u : Expr} → Differs t u → Shape t u
unfolding nodes
differs_shape (or_first {x} {y} s c m) = minus_shape (less_in (less_left Add x (unary Neg y)) c.cut) m
differs_shape (or_second s c m) = minus_shape (less_in (record { cut = in_turn child right; fewer = omega arith }) c.cut) m

-- ---- every element of a list

abbrev pub Each : {A : Type 0} → (A → Type 0) → List A → Type 0
Each P [] = Unit
Each P (a ∷ xs) = P a × Each P xs

module _ {A : Type 0} (P : A → Type 0) where
  each_append : (xs ys : List A) → Each P xs → Each P ys → Each P (xs ++ ys)
  each_append [] ys h g = g
  each_append (a ∷ xs) ys h g = (h.0, each_append xs ys h.1 g)

  each_option : (o : Option A) → Every P o → Each P (to_list o)
  each_option none h = tt
  each_option (some a) h = (h, tt)

  each_at : (n : ℕ) (xs : List A) {a : A} → Each P xs → numbered n xs ≡ some a → P a
  unfolding numbered
  each_at n [] h e = every_at P none tt e
  each_at zero (b ∷ xs) h e = every_at P (some b) h.0 e
  each_at (suc n) (b ∷ xs) h e = each_at n xs h.1 e

-- ---- the addends

module _ (t : Expr) where
  abbrev Part : Addend → Type 0
  Part a = a.expr ⊑ t

  parts : (s : Bool) (u : Expr) → u ⊑ t → Each Part (push_addend s u)
  unfolding push_addend
  parts s (leaf k) h = (h, tt)
  parts s (unary k u) h = if_case (Each Part) (is_neg_kind k) (λ n. parts (bool.not s) u (in_turn child h)) (h, tt)
  parts s (binary k l r) h =
      if_case (Each Part) (same_kind k Add)
      (λ n. each_append Part (push_addend s l) (push_addend s r) (parts s l (in_turn left h)) (parts s r (in_turn right h))) (h, tt)

  or_in : {factor : Expr → Bool} {u l r : Expr} → Product factor u l r → u ⊑ t → binary Or l r ⊑ t
  or_in (product g e) h = in_turn (in_turn right e.cut) h

  insert_parts : {a : Addend} {ys xs : List Addend} → Insert a ys xs → Each Part xs → Part a × Each Part ys
  insert_parts here h = h
  insert_parts (there i) h = let p = insert_parts i h.1 in (p.0, (h.0, p.1))

  addends : Each Part (flatten_addends t)
  addends = parts false t as_it_is

  second_part : {a b : Addend} {ys zs : List Addend} → Insert a ys (flatten_addends t) → Insert b zs ys → Part b
  second_part i j = (insert_parts j (insert_parts i addends).1).0

  -- ---- tags 4 and 5

  plus_one_shape : (w : ℕ) {u : Expr} → PlusOne w (flatten_addends t) u → Shape t u
  plus_one_shape w (plus_one n m i h j) = of_or refl (without_left (in_turn h.cut (second_part i j)))

  or_not_flat_shape : (w : ℕ) {u : Expr} → OrNotFlat w (flatten_addends t) u → Shape t u
  or_not_flat_shape w (or_not_flat m i (n, p) j e) = of_or refl (without_right (or_in p (second_part i j)))

  -- ---- tags 6 and 7

  abbrev OrPart : Expr × Expr → Type 0
  OrPart (l, r) = binary Or l r ⊑ t

  of_operands_lem : (f : Expr × Expr → List Expr) → ((l r : Expr) → binary Or l r ⊑ t → Each (Shape t) (f (l, r)))
      → (o : Option (Expr × Expr)) → Every OrPart o → Each (Shape t) (of_operands f o)
  of_operands_lem f g none h = tt
  of_operands_lem f g (some s) h = g s.0 s.1 h

  of_not : (n : Expr) (f : Expr → Expr) → ((x : Expr) → n ≡ not x → Shape t (f x)) → Each (Shape t) (to_list (map f (operand_of_not n)))
  of_not n f h = each_option (Shape t) (map f (operand_of_not n)) (every_map_on (Shape t) _ (operand_of_not n) (operand_not n) h)

  lax_and_of_lem : (l r : Expr) → binary Or l r ⊑ t → Each (Shape t) (lax_and_of (l, r))
  lax_and_of_lem l r h =
      each_append (Shape t) (to_list (map (λ x. binary And x r) (operand_of_not l))) (to_list (map (λ x. binary And x l) (operand_of_not r)))
      (of_not l _ (λ x e. of_or refl (without_left (subst (λ (s : Expr). binary Or s r ⊑ t) e h))))
      (of_not r _ (λ x e. of_or refl (without_left (in_turn swapped (subst (λ (s : Expr). binary Or l s ⊑ t) e h)))))

  lax_xor_of_lem : (l r : Expr) → binary Or l r ⊑ t → Each (Shape t) (lax_xor_of (l, r))
  lax_xor_of_lem l r h =
      each_append (Shape t) (to_list (map (λ y. binary Xor l y) (operand_of_not r))) (to_list (map (λ y. binary Xor r y) (operand_of_not l)))
      (of_not r _ (λ y e. of_or refl (without_right (subst (λ (s : Expr). binary Or l s ⊑ t) e h))))
      (of_not l _ (λ y e. of_or refl (without_right (in_turn swapped (subst (λ (s : Expr). binary Or s r ⊑ t) e h)))))

  or_part : (a : Addend) → Part a → Every OrPart (operands_of Or a.expr)
  or_part a h = every_on _ OrPart (operands_of Or a.expr) (λ s e. subst (λ (u : Expr). u ⊑ t) e h) (operands Or a.expr)

  lax_and_lem : (a : Addend) → Part a → Each (Shape t) (lax_and a)
  unfolding lax_and
  lax_and_lem a h = if_case (Each (Shape t)) a.negated (λ n. tt) (of_operands_lem lax_and_of lax_and_of_lem (operands_of Or a.expr) (or_part a h))

  lax_xor_lem : (a : Addend) → Part a → Each (Shape t) (lax_xor a)
  unfolding lax_xor
  lax_xor_lem a h =
      of_operands_lem lax_xor_of lax_xor_of_lem (operands_of Or a.expr or_else or_in_product is_constant_node a.expr)
      (every_or_else OrPart (operands_of Or a.expr) (or_in_product is_constant_node a.expr) (or_part a h)
      (every_on _ OrPart (or_in_product is_constant_node a.expr) (λ s p. or_in p h) (or_in_product_lem is_constant_node a.expr)))

  module _ (f : Addend → List Expr) (g : (a : Addend) → Part a → Each (Shape t) (f a)) where
    of_each : (xs : List Addend) → Each Part xs → Each (Shape t) (each f xs)
    unfolding each
    of_each [] h = tt
    of_each (a ∷ xs) h = each_append (Shape t) (f a) (each f xs) (g a h.0) (of_each xs h.1)

    of_addends : Each (Shape t) (each f (flatten_addends t))
    of_addends = of_each (flatten_addends t) addends

-- ---- the claims

module _ (w : ℕ) (node : Expr) where
  claim : (n : ℕ) {u : Expr} → Shape node u → (T (keeps_value n) → (σ : List ℕ) → value w σ u ≡ value w σ node)
      → (T (is_signed n) → (σ : List ℕ) → Signed w σ node u) → Claim w node (record { tag = n; tree = u })
  claim n h k s = record {
    fewer = shape_nodes h;
    shallow = shape_depth h;
    is_tree = shape_tree h;
    one_width = λ widths. shape_one_width w widths h;
    lent = λ σ. shape_lent σ h;
    variables = λ i. shape_variables i h;
    kept = k;
    signed_kept = λ g e σ. (s g σ).kept e;
    signed_negated = λ g e σ. (s g σ).negated e;
  }

  module _ (n : ℕ) (P : Expr → Type 0) (f : (u : Expr) → P u → Claim w node (record { tag = n; tree = u })) where
    each_tagged : (xs : List Expr) → Each P xs → Each (Claim w node) (tagged n xs)
    unfolding tagged
    each_tagged [] h = tt
    each_tagged (u ∷ xs) h = (f u h.0, each_tagged xs h.1)

    tagged_one : (o : Option Expr) → Every P o → Each (Claim w node) (tagged n (to_list o))
    tagged_one o h = each_tagged (to_list o) (each_option P o h)

  pub claims : Each (Claim w node) (candidates w node)
  unfolding candidates lax_candidates
  claims =
      let C = Claim w node in
      let xs = flatten_addends node in
      let m₁ = match_xor_and_absorb node in
      let m₂ = match_xor_via_or_minus_and node in
      let m₃ = match_and_via_not_or_minus_not node in
      let m₄ = match_and_via_not_or_plus_a_plus_one w xs in
      let m₅ = match_xor_via_ornot_flat w xs in
      each_append C (tagged 1 (to_list m₁)) _
      (tagged_one 1 (Absorbs node) (λ u h. claim 1 (absorbs_shape h) (λ k σ. absorbs_value w σ h) (λ k. absurd k)) m₁ (found_1 node))
      (each_append C (tagged 2 (to_list m₂)) _
      (tagged_one 2 (Differs node) (λ u h. claim 2 (differs_shape h) (λ k. absurd k) (λ k σ. differs_value w σ h)) m₂ (found_2 node))
      (each_append C (tagged 3 (to_list m₃)) _
      (tagged_one 3 (Differs node) (λ u h. claim 3 (differs_shape h) (λ k. absurd k) (λ k σ. differs_value w σ h)) m₃ (found_3 node))
      (each_append C (tagged 4 (to_list m₄)) _
      (tagged_one 4 (PlusOne w xs) (λ u h. claim 4 (plus_one_shape node w h) (λ k σ. plus_one_value w σ node h) (λ k. absurd k)) m₄ (found_4 w xs))
      (each_append C (tagged 5 (to_list m₅)) _
      (tagged_one 5 (OrNotFlat w xs)
      (λ u h. claim 5 (or_not_flat_shape node w h) (λ k σ. or_not_flat_value w σ node h) (λ k. absurd k)) m₅ (found_5 w xs))
      (if_case (Each C) (is_add node) (λ a.
      each_append C (tagged 6 (each lax_and xs)) (tagged 7 (each lax_xor xs))
      (each_tagged 6 (Shape node) (λ u h. claim 6 h (λ k. absurd k) (λ k. absurd k)) (each lax_and xs) (of_addends node lax_and (lax_and_lem node)))
      (each_tagged 7 (Shape node) (λ u h. claim 7 h (λ k. absurd k) (λ k. absurd k)) (each lax_xor xs) (of_addends node lax_xor (lax_xor_lem node))))
      tt)))))

pub claim_at : (w n : ℕ) (node : Expr) (c : Candidate) → numbered n (candidates w node) ≡ some c → Claim w node c
claim_at w n node c e = each_at (Claim w node) n (candidates w node) (claims w node) e
