-- What a decision makes is what its words say. Assumes nothing.
use mathlib.Core.Path.{◌≡◌, refl, sym, ap, ap₂, subst, ◌∙◌}
use mathlib.Core.List.{List, [], ◌∷◌, ◌++◌}
use Prim.Native.Nat.{ℕ, ◌+◌, ◌*◌, ◌-◌, ◌≤◌, ◌<◌}
use native.Mathlib.Omega.{arith}
use lib.ListN.{length, take, drop, get_or, length-append, length-drop}
use lib.Seq.{take_at, drop_at, length-take-le}
use mir.Syntax.{w64}
use mir.Val.{Fits}
use Rattle.expr.specs.Expr.{Expr, binary_number, encode}
use Rattle.expr.specs.ExprLaws.{nodes_pos, length_encode}
use Rattle.expr.specs.TailLaws.{tail_drop}
use Rattle.expr.specs.Parts.{part, Laid}
use Rattle.rewriting.specs.AtomSimplifier.{constant, not}
use Rattle.atom_simplifier.specs.declared.local.Decision.{Decision}
use Rattle.atom_simplifier.specs.declared.local.Decision.TheVariants.{Part, Constant, Join, DeMorgan}
use Rattle.atom_simplifier.proofs.DecideLaws.{within_inside, within_part}
use Rattle.atom_simplifier.specs.Promises.{Holds, Joined, dual_number, Turns, Makes, copied, Writable, Writes}

-- ---- a part

module _ (ws : List ℕ) (at len : ℕ) (u : Expr) (h : Holds ws at len u) where
  held : part at (at + len) ws ≡ encode u
  held = within_part ws (encode u) at h.within len h.words

  held_inside : at + len ≤ length ws
  held_inside = omega (arith, within_inside ws (encode u) at h.within, h.words)

module _ (ws : List ℕ) (d : Decision) (room : ℕ) (w : Writable ws d room) where
  made : (e : Decision) → d ≡ e → Makes ws e w.tree
  made e f = subst (λ (x : Decision). Makes ws x w.tree) f w.makes

  module _ (at len : ℕ) (e : d ≡ Part at len) where
    part_held : Holds ws at len w.tree
    unfolding Makes
    part_held = made (Part at len) e

    pub part_inside : at + len ≤ length ws
    part_inside = held_inside ws at len w.tree part_held

    pub part_room : length (part at (at + len) ws) ≤ room
    part_room = omega (arith, ap length (held ws at len w.tree part_held), w.fits)

    pub part_fits : length ws ≤ 1024 → Fits w64 (at + len)
    part_fits h = omega (arith, part_inside)

    pub part_scaled : length ws ≤ 1024 → Fits w64 (at * 8)
    part_scaled h = omega (arith, part_inside)

  pub constant_room : (c : ℕ) → d ≡ Constant c → 2 ≤ room
  unfolding Makes encode
  constant_room c e = omega (arith, w.fits, ap (λ (u : Expr). length (encode u)) (made (Constant c) e))

  module _ (at len c : ℕ) (e : d ≡ Join at len c) where
    join_made : Joined ws at len c w.tree
    unfolding Makes
    join_made = made (Join at len c) e

    pub join_inside : at + len ≤ length ws
    join_inside = held_inside ws at len join_made.operand join_made.holds

    pub join_fits : length ws ≤ 1024 → Fits w64 (at + len)
    join_fits h = omega (arith, join_inside)

    pub join_scaled : length ws ≤ 1024 → Fits w64 (at * 8)
    join_scaled h = omega (arith, join_inside)

    pub join_least : 4 + len ≤ room
    unfolding encode
    join_least =
        let j = join_made in
        omega (arith, w.fits, ap (λ (u : Expr). length (encode u)) j.is, length-append (encode j.operand) (encode (constant c)), j.holds.words)

    pub join_room : 4 + length (part at (at + len) ws) ≤ room
    join_room = omega (arith, join_least, ap length (held ws at len join_made.operand join_made.holds), join_made.holds.words)

    pub join_first : 0 < length ws
    join_first = omega (arith, join_inside, join_made.holds.words, length_encode join_made.operand, nodes_pos join_made.operand)

  module _ (right : ℕ) (e : d ≡ DeMorgan right) where
    turns : Turns ws right w.tree
    unfolding Makes
    turns = made (DeMorgan right) e

    turns_length : length ws ≡ 4 + length (encode turns.left_operand) + length (encode turns.right_operand)
    unfolding encode
    turns_length = ap length turns.was ∙ omega (arith, length-append (encode turns.left_operand) (encode turns.right_operand))

    made_length : length (encode w.tree) ≡ 2 + length ws
    unfolding encode
    made_length =
        let t = turns in
        ap (λ (u : Expr). length (encode u)) t.is
        ∙ omega (arith, turns_length, length-append (encode (not t.left_operand)) (encode (not t.right_operand)))

    pub right_least : 4 ≤ right
    right_least = omega (arith, turns.place)

    pub right_most : right ≤ length ws
    right_most = omega (arith, turns.place, turns_length)

    pub turns_room : 2 + length ws ≤ room
    turns_room = omega (arith, made_length, w.fits)

-- ---- what was written

module _ (ws : List ℕ) (d : Decision) (before after : List ℕ) where
  -- the words that each tree of the decision has are those written
  written : (e : Decision) → d ≡ e → (n : ℕ) (xs : List ℕ) → Laid before after xs → ((u : Expr) → Makes ws e u → xs ≡ encode u) → n ≡ length xs → Writes ws d before after n
  written e f n xs l g i = record {
    laid = λ u m. subst (Laid before after) (g u (subst (λ (x : Decision). Makes ws x u) f m)) l;
    count = λ u m. i ∙ ap length (g u (subst (λ (x : Decision). Makes ws x u) f m));
  }

  pub constant_written : (c : ℕ) → d ≡ Constant c → Laid before after (0 ∷ c ∷ []) → Writes ws d before after 2
  unfolding Makes encode
  constant_written c e l = written (Constant c) e 2 (0 ∷ c ∷ []) l (λ u m. ap encode (sym m)) refl

  module _ (w : ℕ) where
    pub part_written : (at len : ℕ) → d ≡ Part at len → at + len ≤ length ws → Laid before after (copied w (part at (at + len) ws)) → Writes ws d before after len
    unfolding Makes copied
    part_written at len e h l =
        written (Part at len) e len (part at (at + len) ws) l (λ u m. held ws at len u m)
        (let s : len ≡ at + len - at = omega arith in s ∙ sym (length-take-le (at + len - at) (drop at ws) (omega (arith, length-drop at ws))))

    pub join_written : (at len c : ℕ) → d ≡ Join at len c → at + len ≤ length ws
        → Laid before after (((get_or ws 0 0 ∷ 0 ∷ []) ++ copied w (part at (at + len) ws)) ++ (0 ∷ c ∷ [])) → Writes ws d before after (4 + len)
    unfolding Makes copied encode
    join_written at len c e h l =
        written (Join at len c) e (4 + len) (((get_or ws 0 0 ∷ 0 ∷ []) ++ part at (at + len) ws) ++ (0 ∷ c ∷ [])) l
        (λ u m. ap₂ (λ (i : ℕ) (xs : List ℕ). ((i ∷ 0 ∷ []) ++ xs) ++ (0 ∷ c ∷ [])) m.number (held ws at len m.operand m.holds) ∙ ap encode (sym m.is))
        (omega (arith, length-append ((get_or ws 0 0 ∷ 0 ∷ []) ++ part at (at + len) ws) (0 ∷ c ∷ []), length-append (get_or ws 0 0 ∷ 0 ∷ []) (part at (at + len) ws), length-take-le (at + len - at) (drop at ws) (omega (arith, length-drop at ws))))

    pub turned_written : (right : ℕ) → d ≡ DeMorgan right → 4 ≤ right → right ≤ length ws
        → Laid before after (((dual_number (get_or ws 2 0) ∷ 0 ∷ []) ++ ((7 ∷ 0 ∷ []) ++ copied w (part 4 right ws))) ++ ((7 ∷ 0 ∷ []) ++ copied w (part right (length ws) ws)))
        → Writes ws d before after (2 + length ws)
    unfolding Makes copied encode
    turned_written right e h m l =
        written (DeMorgan right) e (2 + length ws) _ l words
        (omega (
          arith,
          length-append ((dual_number (get_or ws 2 0) ∷ 0 ∷ []) ++ ((7 ∷ 0 ∷ []) ++ part 4 right ws)) ((7 ∷ 0 ∷ []) ++ part right (length ws) ws),
          length-take-le (right - 4) (drop 4 ws) (omega (arith, length-drop 4 ws)),
          length-take-le (length ws - right) (drop right ws) (omega (arith, length-drop right ws)),
        ))
      where
        words : (u : Expr) → Turns ws right u → ((dual_number (get_or ws 2 0) ∷ 0 ∷ []) ++ ((7 ∷ 0 ∷ []) ++ part 4 right ws)) ++ ((7 ∷ 0 ∷ []) ++ part right (length ws) ws) ≡ encode u
        words u t =
            let a = encode t.left_operand in
            let b = encode t.right_operand in
            let f : List ℕ = 7 ∷ 0 ∷ binary_number t.kind ∷ 0 ∷ [] in
            let n : right - 4 ≡ length a = omega (arith, t.place) in
            let p : length (f ++ a) ≡ right = omega (arith, t.place, length-append f a) in
            let k : dual_number (get_or ws 2 0) ≡ binary_number t.other = ap (λ (l : List ℕ). dual_number (get_or l 2 0)) t.was ∙ t.number in
            let x : part 4 right ws ≡ a = ap (λ (l : List ℕ). take (right - 4) (drop 4 l)) t.was ∙ take_at a b (right - 4) (sym n) in
            let y : part right (length ws) ws ≡ b =
            tail_drop right ws ∙ ap (drop right) t.was ∙ drop_at (f ++ a) b right p
            in
            ap (λ (i : ℕ). ((i ∷ 0 ∷ []) ++ ((7 ∷ 0 ∷ []) ++ part 4 right ws)) ++ ((7 ∷ 0 ∷ []) ++ part right (length ws) ws)) k
            ∙ ap₂ (λ (v z : List ℕ). ((binary_number t.other ∷ 0 ∷ []) ++ ((7 ∷ 0 ∷ []) ++ v)) ++ ((7 ∷ 0 ∷ []) ++ z)) x y
            ∙ ap encode (sym t.is)

pub ruleset replacing = (part_inside, part_room, part_fits, part_scaled, constant_room, join_inside, join_fits, join_scaled, join_room, join_first, right_least, right_most, turns_room, constant_written, part_written, join_written, turned_written)
