-- Fields and the closing line in lent bytes. Assumes nothing.
use mathlib.Core.Path.{◌≡◌, refl, sym, ap, ap₂, subst, ◌∙◌}
use mathlib.Core.Bool.{Bool, true, false}
use mathlib.Core.List.{List, [], ◌∷◌, ◌++◌, append_assoc, append-nil}
use Prim.Native.Nat.{ℕ, zero, suc, ◌+◌, ◌-◌, ◌*◌, ◌/◌, ◌≤◌, ◌<◌, min}
use native.Mathlib.Nat.{not-suc-le-zero, le_of_suc-le-suc}
use native.Mathlib.Omega.{arith}
use lib.Dec.{ltb}
use mir.Syntax.{w64}
use mir.Val.{Fits}
use lib.ListN.{length, drop, get_or, set, length-append, length-set, drop_of_length-le}
use lib.Seq.{drop-cons, set_at}
use borrow.Author.Tests.{ltb-true, ltb-false, ne_eqb}
use borrow.Rule.Slice.PartMut.{put_mid}
use Rattle.std.specs.Prelude.{if◌then◌else◌}
use Rattle.expr.specs.Parts.{tail, Laid}
use Rattle.expr.specs.TailLaws.{length_tail}
use Rattle.expr.specs.Lent.{over}
use Rattle.expr.specs.LentLaws.{laid_length, laid_on}
use Rattle.hexadecimal.specs.Hex.{digits, places, hex_text}
use Rattle.hexadecimal.specs.HexLaws.{length_digits, places_range}
use Rattle.report_lines.specs.declared.Totals.{Totals}
use Rattle.report_lines.specs.Report.{fields, percentage_of, closing}
use Rattle.report_lines.specs.Steps.{sound_totals}
use Rattle.report_lines.specs.Promises.{field}
use Rattle.report_lines.specs.BoundsLaws.{sound_open, hex_length, fields_most}

-- ---- one field

pub field_length : (n end : ℕ) → length (field n end) ≡ places n + 1
unfolding field
field_length n end = length-append (hex_text n) (end ∷ []) ∙ ap (λ (k : ℕ). k + 1) (hex_length n)

module _ (n end k : ℕ) (out mid : List ℕ) (room : 17 ≤ length out) (ke : k ≡ min (places n) (length out)) (m : mid ≡ over (digits k n) out) where
  all_places : k ≡ places n
  all_places = omega (arith, (places_range 15 n).0, (places_range 15 n).1)

  behind : mid ≡ hex_text n ++ (get_or out k 0 ∷ drop (suc k) out)
  unfolding hex_text
  behind =
      m ∙ ap (λ (j : ℕ). digits k n ++ drop j out) (length_digits k n)
      ∙ ap₂ (λ (xs ys : List ℕ). xs ++ ys) (ap (λ (j : ℕ). digits j n) all_places) (drop-cons out k 0 (omega (arith, (places_range 15 n).1, all_places)))

  pub field_inside : k < length mid
  field_inside =
      omega (arith, ap length behind, length-append (hex_text n) (get_or out k 0 ∷ drop (suc k) out), hex_length n, all_places)

  pub field_put : Laid out (set mid k end) (field n end)
  unfolding field
  field_put =
      let e : length (field n end) ≡ suc k = omega (arith, field_length n end, all_places) in
      record {
        is =
            ap (λ (l : List ℕ). set l k end) behind
            ∙ set_at (hex_text n) (get_or out k 0) (drop (suc k) out) end k (hex_length n ∙ sym all_places)
            ∙ sym (append_assoc (hex_text n) (end ∷ []) (drop (suc k) out))
            ∙ ap (λ (j : ℕ). field n end ++ drop j out) (sym e);
      }

  pub field_count : k + 1 ≡ length (field n end)
  field_count = omega (arith, field_length n end, all_places)

pub ruleset one_field = (field_inside, field_put, field_count)

-- ---- several fields

-- the fields from place i on are that of the number there, and the others
more_fields : (ns : List ℕ) (i : ℕ) → suc i < length ns → fields (drop i ns) ≡ field (get_or ns i 0) 32 ++ fields (drop (suc i) ns)
unfolding fields field
more_fields [] i h = absurd (not-suc-le-zero h)
more_fields (n ∷ []) i h = absurd (omega arith)
more_fields (n ∷ m ∷ ns) zero h = sym (append_assoc (hex_text n) (32 ∷ []) (fields (m ∷ ns)))
more_fields (n ∷ m ∷ ns) (suc i) h = more_fields (m ∷ ns) i (le_of_suc-le-suc h)

last_field : (ns : List ℕ) (i : ℕ) → i < length ns → length ns ≤ suc i → fields (drop i ns) ≡ field (get_or ns i 0) 10 ++ fields (drop (suc i) ns)
unfolding fields field
last_field [] i h l = absurd (not-suc-le-zero h)
last_field (n ∷ []) zero h l = sym (append-nil (hex_text n ++ (10 ∷ [])))
last_field (n ∷ m ∷ ns) zero h l = absurd (omega arith)
last_field (n ∷ ns) (suc i) h l = last_field ns i (le_of_suc-le-suc h) (le_of_suc-le-suc l)

fields_from : (ns : List ℕ) (i end : ℕ) → i < length ns → end ≡ (if ltb (i + 1) (length ns) then 32 else 10)
    → fields (drop i ns) ≡ field (get_or ns i 0) end ++ fields (drop (suc i) ns)
fields_from ns i end h e = go (ltb (i + 1) (length ns)) refl
  where
    go : (b : Bool) → ltb (i + 1) (length ns) ≡ b → fields (drop i ns) ≡ field (get_or ns i 0) end ++ fields (drop (suc i) ns)
    go true f =
        let m : i + 1 < length ns = ltb-true (i + 1) (length ns) f in
        more_fields ns i (omega arith) ∙ ap (λ (x : ℕ). field (get_or ns i 0) x ++ fields (drop (suc i) ns)) (sym (e ∙ ap (λ (c : Bool). if c then 32 else 10) f))
    go false f =
        let m : length ns ≤ i + 1 = ltb-false (i + 1) (length ns) f in
        last_field ns i h (omega arith) ∙ ap (λ (x : ℕ). field (get_or ns i 0) x ++ fields (drop (suc i) ns)) (sym (e ∙ ap (λ (c : Bool). if c then 32 else 10) f))

-- after i turns the first i numbers are written
pub record Fielding (ns before after : List ℕ) (at i : ℕ) : Type 0 where
  pub text : List ℕ
  pub laid : Laid before after text
  pub others : text ++ fields (drop i ns) ≡ fields ns
  pub at_is : at ≡ length text
  pub at_most : at ≤ 17 * i

module _ (ns before : List ℕ) (h : 17 * length ns ≤ length before) (few : length ns ≤ 6) where
  pub no_field : Fielding ns before before 0 0
  no_field = record { text = []; laid = record { is = refl }; others = refl; at_is = refl; at_most = omega arith }

  module _ (after : List ℕ) (at i : ℕ) (f : Fielding ns before after at i) where
    module _ (l : i < length ns) (long : length after ≡ length before) where
      pub fields_room : 17 ≤ length (tail at after)
      fields_room = omega (arith, f.at_most, length_tail at after)

      pub fields_inside : at ≤ length after
      fields_inside = omega (arith, f.at_most)

      pub one_more : (end : ℕ) (rest : List ℕ) (k : ℕ) → end ≡ (if ltb (i + 1) (length ns) then 32 else 10)
          → Laid (tail at after) rest (field (get_or ns i 0) end) → k ≡ length (field (get_or ns i 0) end) → Fielding ns before (put_mid at (length after - at) after rest) (at + k) (i + 1)
      one_more end rest k d m q =
          let n = get_or ns i 0 in
          let e = fields_from ns i end l d in
          let p : length (field n end) ≤ 17 = omega (arith, field_length n end, (places_range 15 n).1) in
          let s : length (f.text ++ field n end) ≡ at + k = omega (arith, length-append f.text (field n end), f.at_is) in
          record {
            text = f.text ++ field n end;
            laid = laid_on before after f.text f.laid at f.at_is rest (field n end) m;
            others =
                ap (λ (x : ℕ). (f.text ++ field n end) ++ fields (drop x ns)) (let x : i + 1 ≡ suc i = omega arith in x)
                ∙ append_assoc f.text (field n end) (fields (drop (suc i) ns))
                ∙ ap (λ (u : List ℕ). f.text ++ u) (sym e) ∙ f.others;
            at_is = sym s;
            at_most = omega (arith, f.at_most);
          }

      pub fields_fit : (n end k : ℕ) → k ≡ length (field n end) → Fits w64 (at + k)
      fields_fit n end k e = omega (arith, f.at_most, field_length n end, (places_range 15 n).1)

    all_text : length ns ≤ i → f.text ≡ fields ns
    unfolding fields
    all_text l = sym (append-nil f.text) ∙ ap (λ (u : List ℕ). f.text ++ fields u) (sym (drop_of_length-le ns l)) ∙ f.others

    pub fields_put : length ns ≤ i → Laid before after (fields ns)
    fields_put l = subst (Laid before after) (all_text l) f.laid

    pub fields_count : length ns ≤ i → at ≡ length (fields ns)
    fields_count l = f.at_is ∙ ap length (all_text l)

    pub fields_few : i ≤ length ns → at ≤ 102
    fields_few l = omega (arith, f.at_most)

pub ruleset all_fields = (no_field, fields_room, fields_inside, fields_fit, one_more, fields_put, fields_count, fields_few)

-- ---- the small functions

module _ (before after : ℕ) where
  pub nothing_before : before ≡ 0 → 0 ≡ percentage_of before after
  unfolding percentage_of
  nothing_before e = rw e

  pub some_before : (before ≡ 0 → ⊥) → 100 * after / before ≡ percentage_of before after
  unfolding percentage_of
  some_before f = simp (ne_eqb before 0 f)

-- ---- the closing line

pub closing_most : (t : Totals) → length (closing t) ≤ 53
unfolding closing
closing_most t = omega (arith, fields_most (t.lines ∷ t.refused ∷ percentage_of t.before t.after ∷ []))

pub before_small : (t : Totals) → sound_totals t ≡ true → t.before ≤ 33553920
before_small t s = let o = sound_open t s in omega (arith, o.some_lines, o.some_before)

pub after_small : (t : Totals) → sound_totals t ≡ true → t.after ≤ 33553920
after_small t s = let o = sound_open t s in omega (arith, o.some_lines, o.some_after)

mark_put : (before : List ℕ) → 2 ≤ length before → Laid before (set (set before 0 61) 1 32) (61 ∷ 32 ∷ [])
mark_put [] h = absurd (omega arith)
mark_put (x ∷ []) h = absurd (omega arith)
mark_put (x ∷ y ∷ bs) h = record { is = refl }

module _ (before : List ℕ) (room : 53 ≤ length before) where
  pub first_inside : 0 < length before
  first_inside = omega arith

  pub second_inside : 1 < length (set before 0 61)
  second_inside = omega (arith, length-set before 0 61)

  pub behind_inside : 2 ≤ length (set (set before 0 61) 1 32)
  behind_inside = omega (arith, length-set (set before 0 61) 1 32, length-set before 0 61)

  pub closing_room : 51 ≤ length (tail 2 (set (set before 0 61) 1 32))
  closing_room = omega (arith, length_tail 2 (set (set before 0 61) 1 32), length-set (set before 0 61) 1 32, length-set before 0 61)

  pub closing_put : (t : Totals) (p : ℕ) (rest : List ℕ) → p ≡ percentage_of t.before t.after → Laid (tail 2 (set (set before 0 61) 1 32)) rest (fields (t.lines ∷ t.refused ∷ p ∷ []))
      → Laid before (put_mid 2 (length (set (set before 0 61) 1 32) - 2) (set (set before 0 61) 1 32) rest) (closing t)
  unfolding closing
  closing_put t p rest e l =
      subst (λ (x : ℕ). Laid before (put_mid 2 (length (set (set before 0 61) 1 32) - 2) (set (set before 0 61) 1 32) rest) (61 ∷ 32 ∷ fields (t.lines ∷ t.refused ∷ x ∷ []))) e
      (laid_on before (set (set before 0 61) 1 32) (61 ∷ 32 ∷ []) (mark_put before (omega arith)) 2 refl rest (fields (t.lines ∷ t.refused ∷ p ∷ [])) l)

  pub closing_long : (t : Totals) (p : ℕ) (rest : List ℕ) → p ≡ percentage_of t.before t.after → Laid (tail 2 (set (set before 0 61) 1 32)) rest (fields (t.lines ∷ t.refused ∷ p ∷ []))
      → length (put_mid 2 (length (set (set before 0 61) 1 32) - 2) (set (set before 0 61) 1 32) rest) ≡ length before
  closing_long t p rest e l = laid_length before _ (closing t) (closing_put t p rest e l) (omega (arith, closing_most t))

pub closing_count : (t : Totals) (p k : ℕ) → p ≡ percentage_of t.before t.after → k ≡ length (fields (t.lines ∷ t.refused ∷ p ∷ [])) → 2 + k ≡ length (closing t)
unfolding closing
closing_count t p k e f =
    ap (λ (x : ℕ). 2 + x) f ∙ ap (λ (x : ℕ). 2 + length (fields (t.lines ∷ t.refused ∷ x ∷ []))) e
    ∙ (let n = length (fields (t.lines ∷ t.refused ∷ percentage_of t.before t.after ∷ [])) in let g : 2 + n ≡ suc (suc n) = omega arith in g)

pub ruleset close_line = (before_small, after_small, first_inside, second_inside, behind_inside, closing_room, closing_put, closing_long, closing_count)
