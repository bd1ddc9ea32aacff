-- De Morgan's law in place: either operand gets its Not and is brought to its end, and then the node. Assumes nothing.
use mathlib.Core.Path.{◌≡◌, refl, sym, ap, ap₂, subst, ◌∙◌}
use mathlib.Core.Logic.{⊎_elim}
use mathlib.Core.List.{List, [], ◌∷◌, ◌++◌, append_assoc}
use mathlib.Core.Option.{none}
use Prim.Native.Nat.{ℕ, ◌+◌, ◌*◌, ◌-◌, ◌≤◌, ◌<◌}
use native.Mathlib.Omega.{arith}
use lib.Dec.{T, eqb}
use lib.ListN.{length, take, drop, get_or, set, length-append, length-drop, length-set}
use lib.Seq.{take_at, drop_at, drop-drop, length-take-le, get_or-drop, get_or-append-add}
use mir.Facts.{and_yes, or_yes}
use mir.Syntax.{w64}
use mir.Val.{Fits}
use borrow.Author.Tests.{eq-eqb}
use borrow.Rule.Slice.PartMut.{put_mid}
use Rattle.expr.specs.Outcome.{accepted}
use Rattle.expr.specs.declared.kind.Unary.{Unary}
use Rattle.expr.specs.declared.kind.Unary.TheVariants.{Not}
use Rattle.expr.specs.declared.kind.Leaf.TheVariants.{Constant, Variable}
use Rattle.expr.specs.declared.kind.Binary.{Binary}
use Rattle.expr.specs.declared.kind.Binary.TheVariants.{Add, Mul, And, Or, Xor, Concat}
use Rattle.expr.specs.Expr.{Expr, leaf, unary, binary, binary_number, encode, nodes}
use Rattle.expr.specs.ExprLaws.{nodes_pos, length_encode, encode_injective}
use Rattle.expr.specs.Parse.{arity_of, operand_ok, operands_ok}
use Rattle.expr.specs.Parts.{tail, part, Laid}
use Rattle.expr.specs.TailLaws.{tail_drop, length_tail}
use Rattle.expr.specs.Front.{Front, Exactly, tree_at, left_of}
use Rattle.expr.specs.PartLaws.{front_tree, starts_front}
use Rattle.expr.specs.LentLaws.{put_tail}
use Rattle.rewriting.specs.AtomSimplifier.{not, is_not, local_rewrite, first_rewrite}
use Rattle.rewriting.specs.TestLaws.{not_number, not_kind→eq}
use Rattle.rewriting.specs.ShapeLaws.{Dual, and_or_lem, or_and, over, Change, less, turned_over, local_change}
use Rattle.rewriting.specs.EndLaws.{Ends, NoneBelow, no_site, left_still, right_still, below_child, ends_right, ends_de_morgan, ends_not_not, not_not_ends}
use Rattle.rewriting.specs.ChainLaws.{count_small}
use Rattle.std.specs.Prelude.{Some}
use Rattle.std.specs.Prelude as answered
use Rattle.atom_simplifier.specs.declared.local.Decision.{Decision}
use Rattle.atom_simplifier.specs.declared.local.Decision.TheVariants.{DeMorgan}
use Rattle.atom_simplifier.specs.Promises.{dual_number, Turns, Makes, Decides, Settleable, Apart, Turnable, Turned, Half, HalfTurned, HalfEnds, EndsAt}
use Rattle.atom_simplifier.proofs.DecideLaws.{not_some, some_decided}
use Rattle.atom_simplifier.proofs.SettleLaws.{first_word, ends_long, settleable_inside, settleable_whole, settleable_short, node_tree, exact, stays, one_replaceable, one_settled, covered, covers, one_tree, one_settleable, one_arity, two_settleable, two_tree, two_arity, two_right}

-- ---- `rewrite_one`

-- the decision for De Morgan's law says what it needs
turnable : (w : ℕ) (ws : List ℕ) (right len : ℕ) {t u : Expr} → Change t u → Front ws t → Exactly (part 0 len ws) t → Turns (part 0 len ws) right u → NoneBelow w t → len ≡ length (encode t) → len ≤ 1024
    → Turnable w ws right len
unfolding nodes
turnable w ws right len {t} (less c) f x m b e h =
    let i : t ≡ not (binary m.kind m.left_operand m.right_operand) = encode_injective t _ (sym x.words ∙ m.was) in
    absurd (omega (arith, c.fewer, ap nodes i, ap nodes m.is))
turnable w ws right len (turned_over (over {k} {j} {a} {b} d n)) f x m s e h =
    let i = encode_injective (not (binary k a b)) (not (binary m.kind m.left_operand m.right_operand)) (sym x.words ∙ m.was) in
    record {
      kind = k;
      other = j;
      left_operand = a;
      right_operand = b;
      dual = d;
      front = f;
      one_not = n;
      still = below_child w Not (binary k a b) s;
      place = m.place ∙ ap (λ (v : Expr). 4 + length (encode (left_of (left_of v)))) (sym i);
      len_is = e;
      short = h;
    }

module _ (w : ℕ) (ws : List ℕ) (len : ℕ) (r : Settleable w ws len) (q : answered.Option Decision) (h : Decides (part 0 len ws) q (local_rewrite w (tree_at (part 0 len ws)))) (d : Decision) (s : q ≡ Some d) where
  pub one_turnable : (right : ℕ) → d ≡ DeMorgan right → Turnable w ws right len
  unfolding Makes
  one_turnable right e =
      let g = subst (λ (t : Expr). Decides (part 0 len ws) q (local_rewrite w t)) (node_tree w ws len r) h in
      let m = some_decided (part 0 len ws) q _ g d s in
      turnable w ws right len (local_change w (tree_at ws) m.0 m.1) (starts_front ws r.starts) (exact w ws len r)
      (subst (λ (x : Decision). Makes (part 0 len ws) x m.0) e m.2) r.below r.len_is r.short

-- ---- `settle_operand`

root_not : (t : Expr) → is_not t ≡ eqb (get_or (encode t) 0 0) 7
unfolding encode
root_not (leaf (Constant c)) = refl
root_not (leaf (Variable i)) = refl
root_not (unary k t) = not_number k
root_not (binary Add l r) = refl
root_not (binary Mul l r) = refl
root_not (binary And l r) = refl
root_not (binary Or l r) = refl
root_not (binary Xor l r) = refl
root_not (binary Concat l r) = refl

is_not_lem : (t : Expr) → T (is_not t) → t ≡ not (left_of t)
is_not_lem (leaf k) h = absurd h
is_not_lem (unary k t) h = ap (λ (j : Unary). unary j t) (not_kind→eq k h)
is_not_lem (binary k l r) h = absurd h

module _ (w : ℕ) (ws : List ℕ) (from len : ℕ) (p : Apart w ws from len) where
  abbrev operand : Expr
  operand = tree_at (tail from ws)

  at_operand : Front (tail from ws) operand
  at_operand = starts_front (tail from ws) p.starts

  behind : drop from ws ≡ encode operand ++ at_operand.rest
  behind = sym (tail_drop from ws) ∙ at_operand.words

  room : from + len ≤ length ws
  room = omega (arith, p.len_is, ap length behind, length-drop from ws, length-append (encode operand) at_operand.rest, length_encode operand, nodes_pos operand)

  pub operand_inside : from < length ws
  operand_inside = omega (arith, room, p.len_is, length_encode operand, nodes_pos operand)

  pub operand_long : 2 ≤ len
  operand_long = omega (arith, p.len_is, length_encode operand, nodes_pos operand)

  pub operand_fits : Fits w64 (from + 2)
  operand_fits = omega (arith, operand_long, p.short)

  first_kind : get_or ws from 0 ≡ get_or (encode operand) 0 0
  first_kind =
      ap (λ (i : ℕ). get_or ws i 0) (let e : from ≡ from + 0 = omega arith in e) ∙ sym (get_or-drop from ws 0 0)
      ∙ ap (λ (l : List ℕ). get_or l 0 0) behind ∙ first_word operand at_operand.rest

  -- a Not over a Not: the two are taken away
  module _ (e : get_or ws from 0 ≡ 7) where
    abbrev inner : Expr
    inner = left_of operand

    operand_is : operand ≡ not inner
    operand_is = is_not_lem operand (subst T (sym (root_not operand ∙ eq-eqb (get_or (encode operand) 0 0) 7 (sym first_kind ∙ e))) tt)

    inner_length : len - 2 ≡ length (encode inner)
    unfolding encode
    inner_length = omega (arith, p.len_is, ap (λ (v : Expr). length (encode v)) operand_is)

    inner_words : part (from + 2) (from + 2 + (len - 2)) ws ≡ encode inner
    unfolding encode
    inner_words =
        let n : length (encode inner) ≡ from + 2 + (len - 2) - (from + 2) = omega (arith, inner_length) in
        ap (take (from + 2 + (len - 2) - (from + 2))) (sym (drop-drop 2 from ws) ∙ ap (drop 2) (behind ∙ ap (λ (v : Expr). encode v ++ at_operand.rest) operand_is))
        ∙ take_at (encode inner) at_operand.rest _ n

    pub inner_inside : from + 2 + (len - 2) ≤ length ws
    inner_inside = omega (arith, room, operand_long)

    pub not_not_done : (after : List ℕ) → Laid ws after (part (from + 2) (from + 2 + (len - 2)) ws) → EndsAt w (not operand) (from + len) ws after (len - 2) 1
    unfolding operands_ok operand_ok
    not_not_done after l =
        let m = subst (Laid ws after) inner_words l in
        let s : first_rewrite w (not inner) ≡ none = ap (first_rewrite w) (sym operand_is) ∙ p.still in
        record {
          tree = inner;
          ends = subst (λ (v : Expr). Ends w (not v) inner 1) (sym operand_is) (ends_not_not w inner s);
          few = omega arith;
          operands = subst (λ (v : Expr). T (operands_ok v)) operand_is at_operand.operands;
          len_is = inner_length;
          between = part (len - 2) (from + len) ws;
          words = covered ws ws after (encode inner) (from + len) (len - 2) m inner_length (omega arith) refl;
          reaches = covers ws ws after (encode inner) (from + len) (len - 2) m inner_length (omega arith) room;
        }

  -- any other operand: the two words before it become the Not
  module _ (e : get_or ws from 0 ≡ 7 → ⊥) where
    pub free_words : 2 ≤ from
    free_words = p.free e

    pub not_scaled : Fits w64 ((from - 2) * 8)
    not_scaled = omega (arith, p.short)

    pub not_fits : Fits w64 (len + 2)
    not_fits = omega (arith, p.short)

    pub not_inside : from - 2 ≤ length ws
    not_inside = omega (arith, room)

    pub not_room : 2 ≤ length (tail (from - 2) ws)
    not_room = omega (arith, length_tail (from - 2) ws, room, operand_long, free_words)

    module _ (first : List ℕ) (l : Laid (tail (from - 2) ws) first (7 ∷ 0 ∷ [])) where
      abbrev put : List ℕ
      put = put_mid (from - 2) (length ws - (from - 2)) ws first

      first_is : first ≡ 7 ∷ 0 ∷ (encode operand ++ at_operand.rest)
      first_is =
          let f : from - 2 + 2 ≡ from = omega (arith, free_words) in
          l.is ∙ ap (λ (v : List ℕ). 7 ∷ 0 ∷ v) (ap (drop 2) (tail_drop (from - 2) ws) ∙ drop-drop 2 (from - 2) ws ∙ ap (λ (i : ℕ). drop i ws) f ∙ behind)

      front_length : length (take (from - 2) ws) ≡ from - 2
      front_length = length-take-le (from - 2) ws not_inside

      put_is : put ≡ take (from - 2) ws ++ first
      put_is = put_tail (from - 2) ws first

      put_tail_is : tail (from - 2) put ≡ first
      put_tail_is = tail_drop (from - 2) put ∙ ap (drop (from - 2)) put_is ∙ drop_at (take (from - 2) ws) first (from - 2) front_length

      put_operands : T (operands_ok (not operand))
      unfolding operands_ok operand_ok
      put_operands = at_operand.operands

      pub not_settleable : Settleable w (tail (from - 2) put) (len + 2)
      not_settleable = one_settleable w Not operand at_operand.rest (tail (from - 2) put) (put_tail_is ∙ first_is) put_operands p.still (len + 2) (omega (arith, p.len_is)) (omega (arith, p.short, free_words))

      pub not_arity : arity_of (get_or (tail (from - 2) put) 0 0) ≡ accepted 1
      not_arity = one_arity w Not operand at_operand.rest (tail (from - 2) put) (put_tail_is ∙ first_is) put_operands

      put_long : length put ≡ length ws
      put_long = ap length put_is ∙ length-append (take (from - 2) ws) first ∙ omega (arith, front_length, ap length first_is, ap length behind, length-drop from ws, free_words, operand_inside)

      pub put_inside : from - 2 ≤ length put
      put_inside = omega (arith, put_long, not_inside)

      module _ (second : List ℕ) (n count : ℕ) (f : EndsAt w (tree_at (tail (from - 2) put)) (len + 2) (tail (from - 2) put) second n count) where
        abbrev settled : List ℕ
        settled = put_mid (from - 2) (length put - (from - 2)) put second

        settled_is : settled ≡ take (from - 2) ws ++ (encode f.tree ++ (f.between ++ at_operand.rest))
        settled_is =
            put_tail (from - 2) put second
            ∙ ap₂ (λ (u v : List ℕ). u ++ v)
            (ap (take (from - 2)) put_is ∙ take_at (take (from - 2) ws) first (from - 2) front_length)
            (f.words ∙ ap (λ (v : List ℕ). encode f.tree ++ (f.between ++ v)) (ap (drop (len + 2)) (put_tail_is ∙ first_is) ∙ behind_operand))
          where
            behind_operand : drop (len + 2) (7 ∷ 0 ∷ (encode operand ++ at_operand.rest)) ≡ at_operand.rest
            behind_operand = drop_at (7 ∷ 0 ∷ encode operand) at_operand.rest (len + 2) (omega (arith, p.len_is))

        -- from the operand's end on the words are as they were
        kept : drop (from + len) settled ≡ drop (from + len) ws
        kept =
            let a = take (from - 2) ws ++ (encode f.tree ++ f.between) in
            let i : length a ≡ from + len = omega (arith, length-append (take (from - 2) ws) (encode f.tree ++ f.between), length-append (encode f.tree) f.between, front_length, f.reaches, f.len_is, free_words) in
            ap (drop (from + len)) (settled_is ∙ (let s : take (from - 2) ws ++ (encode f.tree ++ (f.between ++ at_operand.rest)) ≡ a ++ at_operand.rest = simp append_assoc in s))
            ∙ drop_at a at_operand.rest (from + len) i
            ∙ sym (sym (drop-drop len from ws) ∙ ap (drop len) behind ∙ drop_at (encode operand) at_operand.rest len (sym p.len_is))

        end_words : part (from - 2) (from - 2 + n) settled ≡ encode f.tree
        end_words =
            let i : length (encode f.tree) ≡ from - 2 + n - (from - 2) = omega (arith, f.len_is) in
            ap (λ (v : List ℕ). take (from - 2 + n - (from - 2)) (drop (from - 2) v)) settled_is
            ∙ ap (take (from - 2 + n - (from - 2))) (drop_at (take (from - 2) ws) _ (from - 2) front_length)
            ∙ take_at (encode f.tree) _ _ i

        settled_long : length settled ≡ length ws
        settled_long =
            ap length settled_is
            ∙ omega (
              arith,
              length-append (take (from - 2) ws) (encode f.tree ++ (f.between ++ at_operand.rest)),
              length-append (encode f.tree) (f.between ++ at_operand.rest),
              length-append f.between at_operand.rest,
              front_length,
              f.reaches,
              f.len_is,
              p.len_is,
              ap length behind,
              length-drop from ws,
              length-append (encode operand) at_operand.rest,
              free_words,
              operand_inside,
            )

        pub end_inside : from - 2 + n ≤ length settled
        end_inside = omega (arith, settled_long, room, f.reaches, free_words)

        pub operand_kept : (after : List ℕ) → length after ≡ length settled → length after ≡ length ws
        operand_kept after e = e ∙ settled_long

        pub operand_done : (after : List ℕ) → Laid settled after (part (from - 2) (from - 2 + n) settled) → EndsAt w (not operand) (from + len) ws after n count
        operand_done after m =
            let g = subst (Laid settled after) end_words m in
            let h : n ≤ from + len = omega (arith, f.reaches, free_words) in
            record {
              tree = f.tree;
              ends = subst (λ (v : Expr). Ends w v f.tree count) (one_tree w Not operand at_operand.rest (tail (from - 2) put) (put_tail_is ∙ first_is) put_operands) f.ends;
              few = f.few;
              operands = f.operands;
              len_is = f.len_is;
              between = part n (from + len) settled;
              words = covered ws settled after (encode f.tree) (from + len) n g f.len_is h kept;
              reaches = covers ws settled after (encode f.tree) (from + len) n g f.len_is h (omega (arith, settled_long, room));
            }

-- ---- `settle_de_morgan`

dual_number_lem : {k j : Binary} → Dual k j → dual_number (binary_number k) ≡ binary_number j
dual_number_lem and_or_lem = refl
dual_number_lem or_and = refl

module _ (w : ℕ) (ws : List ℕ) (right len : ℕ) (q : Turnable w ws right len) where
  abbrev a : Expr
  a = q.left_operand

  abbrev b : Expr
  b = q.right_operand

  abbrev rest : List ℕ
  rest = q.front.rest

  words : ws ≡ 7 ∷ 0 ∷ binary_number q.kind ∷ 0 ∷ (encode a ++ (encode b ++ rest))
  unfolding encode
  words = q.front.words ∙ ap (λ (l : List ℕ). 7 ∷ 0 ∷ binary_number q.kind ∷ 0 ∷ l) (append_assoc (encode a) (encode b) rest)

  size : len ≡ 4 + length (encode a) + length (encode b)
  unfolding encode
  size = q.len_is ∙ omega (arith, length-append (encode a) (encode b))

  turn_length : length ws ≡ len + length rest
  turn_length = ap length words ∙ omega (arith, size, length-append (encode a) (encode b ++ rest), length-append (encode b) rest)

  pub turn_inside : 2 < length ws
  turn_inside = omega (arith, turn_length, size)

  pub turn_place : 4 ≤ right
  turn_place = omega (arith, q.place)

  pub turn_right : right ≤ len
  turn_right = omega (arith, q.place, size)

  pub half_falls : (m : ℕ) → 3 * len ≡ m → 3 * (len - right) + 10 < m
  half_falls m f = omega (arith, q.place, size, length_encode a, nodes_pos a)

  pub first_falls : (m : ℕ) → 3 * len ≡ m → 3 * (right - 4) + 9 < m
  first_falls m f = omega (arith, q.place, size, length_encode b, nodes_pos b)

  operands_both : T (operands_ok a) × T (operands_ok b)
  unfolding operands_ok operand_ok
  operands_both = and_yes (operands_ok a) (operands_ok b) q.front.operands

  a_still : first_rewrite w a ≡ none
  a_still = left_still w q.kind a b q.still

  b_still : first_rewrite w b ≡ none
  b_still = right_still w q.kind a b q.still

  module _ (turned : List ℕ) (e : Turned ws turned) where
    turned_is : turned ≡ binary_number q.other ∷ 0 ∷ binary_number q.kind ∷ 0 ∷ (encode a ++ (encode b ++ rest))
    turned_is =
        e.is ∙ ap (λ (l : List ℕ). set l 0 (dual_number (get_or l 2 0))) words
        ∙ ap (λ (i : ℕ). i ∷ 0 ∷ binary_number q.kind ∷ 0 ∷ (encode a ++ (encode b ++ rest))) (dual_number_lem q.dual)

    pub turned_inside : 2 ≤ length turned
    turned_inside = omega (arith, ap length e.is, length-set ws 0 (dual_number (get_or ws 2 0)), turn_inside)

    under : tail 2 turned ≡ binary_number q.kind ∷ 0 ∷ (encode a ++ (encode b ++ rest))
    under = tail_drop 2 turned ∙ ap (drop 2) turned_is

    first_front : Front (tail 2 (tail 2 turned)) a
    first_front = record { rest = encode b ++ rest; words = tail_drop 2 (tail 2 turned) ∙ ap (drop 2) under; operands = operands_both.0 }

    first_is_a : tree_at (tail 2 (tail 2 turned)) ≡ a
    first_is_a = front_tree (tail 2 (tail 2 turned)) a first_front

    pub first_apart : Apart w (tail 2 turned) 2 (right - 4)
    first_apart = record {
      starts = record { tree = a; front = first_front };
      len_is = omega (arith, q.place, ap (λ (v : Expr). length (encode v)) first_is_a);
      short = omega (arith, turn_right, turn_place, q.short);
      still = ap (first_rewrite w) first_is_a ∙ a_still;
      free = λ z. omega arith;
    }

    module _ (second : List ℕ) (n count : ℕ) (f : EndsAt w (not (tree_at (tail 2 (tail 2 turned)))) (2 + (right - 4)) (tail 2 turned) second n count) where
      a_ends : Ends w (not a) f.tree count
      a_ends = subst (λ (v : Expr). Ends w (not v) f.tree count) first_is_a f.ends

      second_is : second ≡ encode f.tree ++ (f.between ++ (encode b ++ rest))
      second_is =
          f.words
          ∙ ap (λ (l : List ℕ). encode f.tree ++ (f.between ++ l))
          (ap (drop (2 + (right - 4))) under ∙ drop_at (binary_number q.kind ∷ 0 ∷ encode a) (encode b ++ rest) (2 + (right - 4)) (omega (arith, q.place)))

      abbrev turning_over : List ℕ
      turning_over = put_mid 2 (length turned - 2) turned second

      -- the first operand has come to no more words than it had with its Not
      reach : 2 + n + length f.between ≡ right
      reach = omega (arith, f.reaches, turn_place)

      pub second_place : 2 + n ≤ right
      second_place = omega (arith, reach)

      pub second_fits : Fits w64 (2 + n)
      second_fits = omega (arith, reach, turn_right, q.short)

      -- where the second operand is no Not, the first is one, and its two Nots are gone
      two_free : (T (is_not b) → ⊥) → 2 ≤ length f.between
      unfolding encode
      two_free g = ⊎_elim left (λ h. absurd (g h)) (or_yes (is_not a) (is_not b) q.one_not)
        where
          left : T (is_not a) → 2 ≤ length f.between
          left h =
              let i = is_not_lem a h in
              let s : first_rewrite w (not (left_of a)) ≡ none = ap (first_rewrite w) (sym i) ∙ a_still in
              let k = not_not_ends w (left_of a) f.tree count s (subst (λ (v : Expr). Ends w (not v) f.tree count) i a_ends) in
              omega (arith, reach, f.len_is, ap (λ (v : Expr). length (encode v)) k, ap (λ (v : Expr). length (encode v)) i, q.place)

      turning_is : turning_over ≡ binary_number q.other ∷ 0 ∷ (encode f.tree ++ (f.between ++ (encode b ++ rest)))
      turning_is = put_tail 2 turned second ∙ ap₂ (λ (u v : List ℕ). u ++ v) (ap (take 2) turned_is) second_is

      half : Half w q.other f.tree b turning_over (2 + n) right len
      half = record {
        between = f.between;
        rest = rest;
        words = turning_is;
        at_is = omega (arith, f.len_is);
        right_is = sym reach;
        len_is = omega (arith, size, q.place);
        short = q.short;
        left_operands = f.operands;
        operands = operands_both.1;
        left_still = no_site w a_ends;
        still = b_still;
        free = two_free;
      }

      is_half : HalfTurned w turning_over (2 + n) right len
      is_half = record { kind = q.other; left = f.tree; operand = b; half = half }

      module _ (after : List ℕ) (n₂ count₂ : ℕ) (h : HalfEnds w turning_over (2 + n) right len after n₂ count₂) where
        end : EndsAt w (binary q.other f.tree (not b)) len turning_over after n₂ count₂
        end = h.ends q.other f.tree b half

        tree_is : tree_at ws ≡ not (binary q.kind a b)
        tree_is = front_tree ws (not (binary q.kind a b)) q.front

        all : Ends w (tree_at ws) end.tree (1 + count + count₂)
        all =
            subst (λ (v : Expr). Ends w v end.tree (1 + count + count₂)) (sym tree_is)
            (ends_de_morgan w q.kind q.other a b f.tree end.tree count count₂ q.dual q.one_not q.still a_ends end.ends)

        -- behind the node both lists of words have the same
        same_rest : drop len turning_over ≡ drop len ws
        same_rest =
            let front = binary_number q.other ∷ 0 ∷ (encode f.tree ++ (f.between ++ encode b)) in
            let i : length front ≡ len = omega (arith, size, q.place, reach, f.len_is, length-append (encode f.tree) (f.between ++ encode b), length-append f.between (encode b)) in
            let s : encode f.tree ++ (f.between ++ (encode b ++ rest)) ≡ (encode f.tree ++ (f.between ++ encode b)) ++ rest = simp append_assoc in
            ap (drop len) (turning_is ∙ ap (λ (l : List ℕ). binary_number q.other ∷ 0 ∷ l) s) ∙ drop_at front rest len i
            ∙ sym (ap (drop len) q.front.words ∙ drop_at (encode (not (binary q.kind a b))) rest len (sym q.len_is))

        pub turn_done : EndsAt w (tree_at ws) len ws after n₂ (1 + count + count₂)
        turn_done = record {
          tree = end.tree;
          ends = all;
          few = count_small w all (omega (arith, length_encode (tree_at ws), ap (λ (v : Expr). length (encode v)) tree_is, q.len_is, q.short));
          operands = end.operands;
          len_is = end.len_is;
          between = end.between;
          words = end.words ∙ ap (λ (l : List ℕ). encode end.tree ++ (end.between ++ l)) same_rest;
          reaches = end.reaches;
        }

        pub turn_long : length after ≡ length ws
        turn_long = ends_long w (tree_at ws) len ws after n₂ (1 + count + count₂) turn_done (omega (arith, turn_length))

        pub turn_count : Fits w64 (1 + count + count₂)
        turn_count = omega (arith, turn_done.few)

pub half_turned : (ws turned : List ℕ) → Turned ws turned → (w right len : ℕ) → Turnable w ws right len
    → (second : List ℕ) (n count : ℕ) → EndsAt w (not (tree_at (tail 2 (tail 2 turned)))) (2 + (right - 4)) (tail 2 turned) second n count
    → HalfTurned w (put_mid 2 (length turned - 2) turned second) (2 + n) right len
half_turned ws turned e w right len q second n count f = is_half w ws right len q turned e second n count f

-- ---- `settle_second`

module _ (w : ℕ) (ws : List ℕ) (at right len : ℕ) (k : Binary) (l o : Expr) (h : Half w k l o ws at right len) where
  half_length : length ws ≡ len + length h.rest
  half_length =
      ap length h.words
      ∙ omega (
        arith,
        h.len_is,
        h.right_is,
        h.at_is,
        length-append (encode l) (h.between ++ (encode o ++ h.rest)),
        length-append h.between (encode o ++ h.rest),
        length-append (encode o) h.rest,
      )

  pub at_right : at ≤ right
  at_right = omega (arith, h.right_is)

  pub right_len : right ≤ len
  right_len = omega (arith, h.len_is)

  pub at_inside : at ≤ length ws
  at_inside = omega (arith, half_length, at_right, right_len)

  pub at_scaled : Fits w64 (at * 8)
  at_scaled = omega (arith, at_right, right_len, h.short)

  behind_left : tail at ws ≡ h.between ++ (encode o ++ h.rest)
  behind_left =
      tail_drop at ws ∙ ap (drop at) h.words
      ∙ drop_at (binary_number k ∷ 0 ∷ encode l) (h.between ++ (encode o ++ h.rest)) at (omega (arith, h.at_is))

  operand_front : Front (tail (right - at) (tail at ws)) o
  operand_front = record {
    rest = h.rest;
    words =
        tail_drop (right - at) (tail at ws) ∙ ap (drop (right - at)) behind_left
        ∙ drop_at h.between (encode o ++ h.rest) (right - at) (omega (arith, h.right_is));
    operands = h.operands;
  }

  operand_tree : tree_at (tail (right - at) (tail at ws)) ≡ o
  operand_tree = front_tree (tail (right - at) (tail at ws)) o operand_front

  o_first : T (is_not o) → get_or (tail at ws) (right - at) 0 ≡ 7
  unfolding encode
  o_first i =
      let e : right - at ≡ length h.between + 0 = omega (arith, h.right_is) in
      ap₂ (λ (v : List ℕ) (m : ℕ). get_or v m 0) behind_left e
      ∙ get_or-append-add h.between (encode o ++ h.rest) 0 0
      ∙ ap (λ (v : Expr). get_or (encode v ++ h.rest) 0 0) (is_not_lem o i)

  pub second_apart : Apart w (tail at ws) (right - at) (len - right)
  second_apart = record {
    starts = record { tree = o; front = operand_front };
    len_is = omega (arith, h.len_is, ap (λ (v : Expr). length (encode v)) operand_tree);
    short = omega (arith, right_len, h.short);
    still = ap (first_rewrite w) operand_tree ∙ h.still;
    free = λ z. omega (arith, h.free (λ i. z (o_first i)), h.right_is);
  }

  module _ (third : List ℕ) (n count : ℕ) (g : EndsAt w (not (tree_at (tail (right - at) (tail at ws)))) (right - at + (len - right)) (tail at ws) third n count) where
    o_ends : Ends w (not o) g.tree count
    o_ends = subst (λ (v : Expr). Ends w (not v) g.tree count) operand_tree g.ends

    third_is : third ≡ encode g.tree ++ (g.between ++ h.rest)
    third_is =
        let i : length (h.between ++ encode o) ≡ right - at + (len - right) = omega (arith, length-append h.between (encode o), h.right_is, h.len_is) in
        g.words
        ∙ ap (λ (v : List ℕ). encode g.tree ++ (g.between ++ v))
        (ap (drop (right - at + (len - right))) (behind_left ∙ sym (append_assoc h.between (encode o) h.rest)) ∙ drop_at (h.between ++ encode o) h.rest _ i)

    abbrev both : List ℕ
    both = put_mid at (length ws - at) ws third

    both_is : both ≡ binary_number k ∷ 0 ∷ (encode l ++ (encode g.tree ++ (g.between ++ h.rest)))
    both_is =
        put_tail at ws third
        ∙ ap₂ (λ (u v : List ℕ). u ++ v)
        (ap (take at) h.words ∙ take_at (binary_number k ∷ 0 ∷ encode l) (h.between ++ (encode o ++ h.rest)) at (omega (arith, h.at_is)))
        third_is

    both_reach : at + n + length g.between ≡ len
    both_reach = omega (arith, g.reaches, at_right, right_len)

    pub both_fits : Fits w64 (at + n)
    both_fits = omega (arith, both_reach, h.short)

    pub both_settleable : Settleable w both (at + n)
    both_settleable =
        two_settleable w k l g.tree (g.between ++ h.rest) both both_is h.left_operands g.operands h.left_still (no_site w o_ends) (at + n)
        (omega (arith, h.at_is, g.len_is)) (omega (arith, both_reach, h.short))

    pub both_arity : arity_of (get_or both 0 0) ≡ accepted 2
    both_arity = two_arity w k l g.tree (g.between ++ h.rest) both both_is h.left_operands g.operands

    pub both_right : at ≡ 2 + length (encode (left_of (tree_at both)))
    both_right = two_right w k l g.tree (g.between ++ h.rest) both both_is h.left_operands g.operands at h.at_is

    module _ (after : List ℕ) (n₂ count₂ : ℕ) (m : EndsAt w (tree_at both) (at + n) both after n₂ count₂) where
      behind_both : drop (at + n) both ≡ g.between ++ drop len ws
      behind_both =
          let front = binary_number k ∷ 0 ∷ (encode l ++ encode g.tree) in
          let i : length front ≡ at + n = omega (arith, length-append (encode l) (encode g.tree), h.at_is, g.len_is) in
          let all = binary_number k ∷ 0 ∷ (encode l ++ (h.between ++ encode o)) in
          let j : length all ≡ len = omega (arith, length-append (encode l) (h.between ++ encode o), length-append h.between (encode o), h.at_is, h.right_is, h.len_is) in
          let s : encode l ++ (h.between ++ (encode o ++ h.rest)) ≡ (encode l ++ (h.between ++ encode o)) ++ h.rest = simp append_assoc in
          ap (drop (at + n)) (both_is ∙ ap (λ (v : List ℕ). binary_number k ∷ 0 ∷ v) (sym (append_assoc (encode l) (encode g.tree) (g.between ++ h.rest))))
          ∙ drop_at front (g.between ++ h.rest) (at + n) i
          ∙ ap (λ (v : List ℕ). g.between ++ v) (sym (ap (drop len) (h.words ∙ ap (λ (v : List ℕ). binary_number k ∷ 0 ∷ v) s) ∙ drop_at all h.rest len j))

      top_ends : Ends w (binary k l g.tree) m.tree count₂
      top_ends = subst (λ (v : Expr). Ends w v m.tree count₂) (two_tree w k l g.tree (g.between ++ h.rest) both both_is h.left_operands g.operands) m.ends

      two_ends : Ends w (binary k l (not o)) m.tree (count + count₂)
      two_ends = ends_right w k l (not o) g.tree m.tree count count₂ h.left_still o_ends top_ends

      few_two : count + count₂ ≤ 4194304
      unfolding nodes
      few_two = count_small w two_ends (omega (arith, length_encode l, length_encode o, h.at_is, h.len_is, h.right_is, h.short))

      second_ends : EndsAt w (binary k l (not o)) len ws after n₂ (count + count₂)
      second_ends = record {
        tree = m.tree;
        ends = two_ends;
        few = few_two;
        operands = m.operands;
        len_is = m.len_is;
        between = m.between ++ g.between;
        words =
            m.words
            ∙ ap (λ (v : List ℕ). encode m.tree ++ (m.between ++ v)) behind_both
            ∙ ap (λ (v : List ℕ). encode m.tree ++ v) (sym (append_assoc m.between g.between (drop len ws)));
        reaches = omega (arith, m.reaches, both_reach, length-append m.between g.between);
      }

      pub second_count : Fits w64 (count + count₂)
      second_count = omega (arith, few_two)

      pub second_long : length after ≡ length ws
      second_long = ends_long w (binary k l (not o)) len ws after n₂ (count + count₂) second_ends (omega (arith, half_length))

pub second_done : (w : ℕ) (ws : List ℕ) (at right len : ℕ) (third : List ℕ) (n count : ℕ) → EndsAt w (not (tree_at (tail (right - at) (tail at ws)))) (right - at + (len - right)) (tail at ws) third n count
    → let both = put_mid at (length ws - at) ws third in
    (after : List ℕ) (n₂ count₂ : ℕ) → EndsAt w (tree_at both) (at + n) both after n₂ count₂ → HalfEnds w ws at right len after n₂ (count + count₂)
second_done w ws at right len third n count g after n₂ count₂ m = record { ends = λ k l o h. second_ends w ws at right len k l o h third n count g after n₂ count₂ m }

-- ---- the measure falls from call to call

pub rewrite_falls : (len m : ℕ) → 3 * len + 2 ≡ m → 3 * len + 1 < m
rewrite_falls len m e = omega arith

pub turn_falls : (len m : ℕ) → 3 * len + 1 ≡ m → 3 * len < m
turn_falls len m e = omega arith

pub not_falls : (len m : ℕ) → 3 * len + 9 ≡ m → 3 * (len + 2) + 2 < m
not_falls len m e = omega arith

pub second_call_falls : (right len m : ℕ) → 3 * (len - right) + 10 ≡ m → 3 * (len - right) + 9 < m
second_call_falls right len m e = omega arith

pub ruleset rewriting_one = (not_some, stays, one_replaceable, one_settled, one_turnable, turn_falls)

pub ruleset settling_one = (settleable_inside, settleable_whole, settleable_short, rewrite_falls)

pub ruleset settling_operand = (operand_inside, operand_long, operand_fits, inner_inside, not_not_done, free_words, not_scaled, not_fits, not_inside, not_room, not_settleable, not_arity, put_inside, end_inside, operand_done, operand_kept, not_falls)

pub ruleset turning = (turn_inside, turn_place, turn_right, turned_inside, first_apart, first_falls, half_falls, second_place, second_fits, half_turned, turn_count, turn_done, turn_long)

pub ruleset settling_second = (at_right, right_len, at_inside, at_scaled, second_apart, both_fits, both_settleable, both_arity, both_right, second_count, second_long, second_done, second_call_falls)
