-- What a decision makes of a node is put in the place of the node. Assumes nothing.
use mathlib.Core.Path.{◌≡◌, sym, ap, ap₂, subst, ◌∙◌}
use mathlib.Core.List.{List, [], ◌∷◌, ◌++◌, append-nil}
use Prim.Native.Nat.{ℕ, zero, suc, ◌+◌, ◌*◌, ◌-◌, ◌≤◌}
use native.Mathlib.Omega.{arith}
use lib.ListN.{length, take, drop, get_or, length-drop, take-append-drop, drop_of_length-le}
use lib.Seq.{length-take-le, get_or-take, take-append-le, drop-append-le}
use mir.Syntax.{w64}
use mir.Val.{Fits}
use Rattle.expr.specs.Expr.{Expr, encode}
use Rattle.expr.specs.ExprLaws.{prefix_free}
use Rattle.expr.specs.Parts.{part, Laid}
use Rattle.expr.specs.Front.{tree_at}
use Rattle.atom_simplifier.specs.declared.local.Decision.{Decision}
use Rattle.atom_simplifier.specs.declared.local.Decision.TheVariants.{Part, Constant, Join, DeMorgan}
use Rattle.atom_simplifier.specs.Promises.{Joined, Makes, copied, Writes, Replaceable}
use Rattle.atom_simplifier.proofs.ReplacementLaws as in_node
use Rattle.atom_simplifier.proofs.ReplacementLaws.{constant_written, part_written, join_written}

-- a part of the first words is that part of all
part_front : (ws : List ℕ) (len at n : ℕ) → len ≤ length ws → at + n ≤ len → part at (at + n) (part 0 len ws) ≡ part at (at + n) ws
part_front ws len at n g h =
    let f = take (len - 0) ws in
    let l : length f ≡ len = (let e : len - 0 ≡ len = omega arith in length-take-le (len - 0) ws (omega arith) ∙ e) in
    sym (ap (λ (v : List ℕ). take (at + n - at) (drop at v)) (sym (take-append-drop (len - 0) ws))
    ∙ ap (take (at + n - at)) (drop-append-le at f (drop (len - 0) ws) (omega arith))
    ∙ take-append-le (at + n - at) (drop at f) (drop (len - 0) ws) (omega (arith, length-drop at f)))

module _ (ws : List ℕ) (len : ℕ) (d : Decision) (r : Replaceable ws len d) where
  abbrev node : List ℕ
  node = part 0 len ws

  node_length : length node ≡ len
  node_length = let e : len - 0 ≡ len = omega arith in length-take-le (len - 0) ws (omega (arith, r.inside)) ∙ e

  -- ---- a part

  module _ (at n : ℕ) (e : d ≡ Part at n) where
    part_short : at + n ≤ len
    part_short = omega (arith, in_node.part_inside node d len r.writable at n e, node_length)

    pub part_replaceable : at + n ≤ length ws
    part_replaceable = omega (arith, part_short, r.inside)

    pub part_replaced : (after : List ℕ) → Laid ws after (part at (at + n) ws) → Writes node d ws after n
    unfolding copied
    part_replaced after l =
        part_written node d ws after 0 at n e (omega (arith, part_short, node_length))
        (subst (Laid ws after) (sym (part_front ws len at n r.inside part_short)) l)

  -- ---- a constant

  module _ (c : ℕ) (e : d ≡ Constant c) where
    pub constant_replaceable : 2 ≤ length ws
    constant_replaceable = omega (arith, in_node.constant_room node d len r.writable c e, r.inside)

  -- ---- the node's kind over a part and a constant

  module _ (at n c : ℕ) (e : d ≡ Join at n c) where
    joined : Joined node at n c r.writable.tree
    unfolding Makes
    joined = subst (λ (x : Decision). Makes node x r.writable.tree) e r.writable.makes

    join_short : at + n ≤ len
    join_short = omega (arith, in_node.join_inside node d len r.writable at n c e, node_length)

    pub join_replaceable : 4 + n ≤ length ws
    join_replaceable = omega (arith, in_node.join_least node d len r.writable at n c e, r.inside)

    pub count_fits : Fits w64 len → Fits w64 (4 + n)
    count_fits l = omega (arith, in_node.join_least node d len r.writable at n c e)

    pub join_end : at + n ≤ length ws
    join_end = omega (arith, join_short, r.inside)

    -- only the node itself begins at its first word, and the part has fewer words
    pub join_place : 2 ≤ at
    join_place = go joined.holds.half joined.holds.even
      where
        first : at ≡ 0 → ⊥
        first z =
            let i = joined.holds.within in
            let none : length i.prefix ≤ 0 = omega (arith, i.place) in
            let f : i.prefix ≡ [] = drop_of_length-le i.prefix none in
            let b = prefix_free (tree_at node) joined.operand [] i.suffix
            (append-nil (encode (tree_at node)) ∙ sym r.whole.words ∙ i.words ∙ ap (λ (l : List ℕ). l ++ (encode joined.operand ++ i.suffix)) f) in
            omega (arith, in_node.join_least node d len r.writable at n c e, node_length, ap length r.whole.words, ap (λ (t : Expr). length (encode t)) b.0, joined.holds.words)

        go : (half : ℕ) → at ≡ 2 * half → 2 ≤ at
        go zero f = absurd (first f)
        go (suc half) f = omega arith

    pub join_replaced : (after : List ℕ) → Laid ws after (((get_or ws 0 0 ∷ 0 ∷ []) ++ part at (at + n) ws) ++ (0 ∷ c ∷ [])) → Writes node d ws after (4 + n)
    unfolding copied
    join_replaced after l =
        join_written node d ws after 0 at n c e (omega (arith, join_short, node_length))
        (subst (Laid ws after)
        (ap₂ (λ (k : ℕ) (v : List ℕ). ((k ∷ 0 ∷ []) ++ v) ++ (0 ∷ c ∷ [])) (sym (get_or-take (len - 0) ws 0 0 (omega (arith, join_short, join_place)))) (sym (part_front ws len at n r.inside join_short))) l)

  -- ---- De Morgan's law makes more words than the node has

  pub none_replaced : (right : ℕ) → d ≡ DeMorgan right → (before after : List ℕ) (n : ℕ) → Writes node d before after n
  none_replaced right e before after n = absurd (omega (arith, in_node.turns_room node d len r.writable right e, node_length))

pub ruleset in_place = (part_replaceable, part_replaced, constant_replaceable, constant_written, join_replaceable, count_fits, join_end, join_place, join_replaced, none_replaced)
