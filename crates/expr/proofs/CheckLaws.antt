-- What `check_at` has found of a subtree, from what it has found of the node and its children. Assumes nothing.
use mathlib.Core.Path.{◌≡◌, refl, sym, ap, ◌∙◌}
use mathlib.Core.List.{List, [], ◌∷◌}
use Prim.Native.Nat.{ℕ, zero, suc, ◌+◌, ◌*◌, ◌-◌, ◌^◌, ◌≤◌, ◌<◌}
use native.Mathlib.Omega.{arith}
use lib.ListN.{length, drop, get_or, length-append}
use lib.Seq.{drop_at}
use mir.Syntax.{w64}
use mir.Val.{Fits}
use Rattle.expr.specs.declared.refusal.Reason.{Reason}
use Rattle.expr.specs.declared.Arity.{Arity}
use Rattle.expr.specs.declared.Arity.TheVariants.{Zero, One, Two}
use Rattle.expr.specs.Refusals.{refusal}
use Rattle.expr.specs.Outcome.{Outcome, refused, accepted, mapped, ◌and_then◌}
use Rattle.expr.specs.OutcomeLaws.{then_accepted, then_refused, Made, mapped_made}
use Rattle.expr.specs.Expr.{Expr, unary, binary, encode, nodes}
use Rattle.expr.specs.ExprLaws.{length_encode}
use Rattle.expr.specs.Parse.{Kind, none, one, two, arity, node_kind, children, node, subtree}
use Rattle.expr.specs.ParseLaws.{node_read, Begins, subtree_sound}
use Rattle.expr.specs.Answers.{children_of}
use Rattle.expr.specs.Parts.{tail}
use Rattle.expr.specs.TailLaws.{tail_drop, length_tail}

abbrev pub count : Expr × List ℕ → ℕ
count p = nodes p.0

-- ---- the definition, at a node

short : (d : ℕ) (ws : List ℕ) → length ws < 2 → subtree d ws ≡ refused (refusal 6)
unfolding subtree node
short zero [] h = refl
short zero (k ∷ []) h = refl
short zero (k ∷ o ∷ r) h = absurd (omega arith)
short (suc d) [] h = refl
short (suc d) (k ∷ []) h = refl
short (suc d) (k ∷ o ∷ r) h = absurd (omega arith)

-- the node's words, and what `node_kind` says of them
abbrev pub kind_here : ℕ → List ℕ → Outcome Kind
kind_here d ws = node_kind d (get_or ws 0 0) (get_or ws 1 0)

stopped : (d : ℕ) (ws : List ℕ) {r : Reason} → 2 ≤ length ws → kind_here d ws ≡ refused r → subtree d ws ≡ refused r
unfolding subtree node
stopped d [] h e = absurd (omega arith)
stopped d (k ∷ []) h e = absurd (omega arith)
stopped zero (k ∷ o ∷ r) h e = then_refused e _
stopped (suc d) (k ∷ o ∷ r) h e = then_refused e _

read_on : (d : ℕ) (ws : List ℕ) {κ : Kind} → 2 ≤ length ws → kind_here d ws ≡ accepted κ → subtree d ws ≡ children (subtree (d - 1)) κ (tail 2 ws)
unfolding subtree node
read_on d [] h e = absurd (omega arith)
read_on d (k ∷ []) h e = absurd (omega arith)
read_on zero (k ∷ o ∷ r) h e = absurd (omega (arith, (node_read zero k o e).level))
read_on (suc d) (k ∷ o ∷ r) {κ} h e =
    then_accepted e _
    ∙ ap (λ (n : ℕ). children (subtree n) κ r) (let s : d ≡ suc d - 1 = omega arith in s)
    ∙ ap (children (subtree (suc d - 1)) κ) (sym (tail_drop 2 (k ∷ o ∷ r)))

-- ---- the count of a node, from those of its children

module _ (next : List ℕ → Outcome (Expr × List ℕ)) (ws : List ℕ) where
  leaf_count : (κ : Kind) → arity κ ≡ 0 → accepted 1 ≡ mapped count (children next κ ws)
  unfolding nodes
  leaf_count (none k) e = refl
  leaf_count (one k) e = absurd (omega arith)
  leaf_count (two k) e = absurd (omega arith)

  one_count : (κ : Kind) → arity κ ≡ 1 → mapped (λ n. n + 1) (mapped count (next ws)) ≡ mapped count (children next κ ws)
  unfolding nodes
  one_count (none k) e = absurd (omega arith)
  one_count (one k) e = go (next ws)
    where
      go : (x : Outcome (Expr × List ℕ)) → mapped (λ n. n + 1) (mapped count x) ≡ mapped count (x and_then (λ p. accepted (unary k p.0, p.1)))
      go (refused r) = refl
      go (accepted p) = ap accepted (omega arith)
  one_count (two k) e = absurd (omega arith)

  left_stops : (κ : Kind) {r : Reason} → arity κ ≡ 2 → refused r ≡ mapped count (next ws) → refused r ≡ mapped count (children next κ ws)
  left_stops (none k) e f = absurd (omega arith)
  left_stops (one k) e f = absurd (omega arith)
  left_stops (two k) e f = go (next ws) _ f
    where
      go : (x : Outcome (Expr × List ℕ)) (g : Expr × List ℕ → Outcome (Expr × List ℕ)) {r : Reason} → refused r ≡ mapped count x → refused r ≡ mapped count (x and_then g)
      go (refused r) g h = h
      go (accepted p) g h = absurd (let z : ◌≡◌ {A = ℕ} 0 1 = cc in omega arith)

  two_count : (κ : Kind) (t : Expr) (rest : List ℕ) → arity κ ≡ 2 → next ws ≡ accepted (t, rest) → mapped (λ m. nodes t + m + 1) (mapped count (next rest)) ≡ mapped count (children next κ ws)
  unfolding nodes
  two_count (none k) t rest e f = absurd (omega arith)
  two_count (one k) t rest e f = absurd (omega arith)
  two_count (two k) t rest e f = go (next rest) ∙ sym (ap (mapped count) (then_accepted f _))
    where
      go : (x : Outcome (Expr × List ℕ)) → mapped (λ m. nodes t + m + 1) (mapped count x) ≡ mapped count (x and_then (λ q. accepted (binary k t q.0, q.1)))
      go (refused r) = refl
      go (accepted p) = ap accepted (omega arith)

-- a count that was found lies within the words, and the rest follows it
module _ (d n : ℕ) (ws : List ℕ) (e : accepted n ≡ mapped count (subtree d ws)) where
  pub found : Made count (subtree d ws) n
  found = mapped_made count (subtree d ws) e

  begins : Begins d ws found.answer.0 found.answer.1
  begins = subtree_sound d ws found.answer.0 found.answer.1 found.was

  words : length (encode found.answer.0) ≡ 2 * n
  words = length_encode found.answer.0 ∙ ap (λ (i : ℕ). 2 * i) found.made

  pub rest_length : 2 * n + length found.answer.1 ≡ length ws
  rest_length = omega (arith, words, length-append (encode found.answer.0) found.answer.1, ap length begins.words)

  pub found_fits : 2 * n ≤ length ws
  found_fits = omega (arith, rest_length)

  rest_tail : found.answer.1 ≡ tail (2 * n) ws
  rest_tail = sym (tail_drop (2 * n) ws ∙ ap (drop (2 * n)) begins.words ∙ drop_at (encode found.answer.0) found.answer.1 (2 * n) words)

-- ---- the answers of `check_at`

module _ (d : ℕ) (ws : List ℕ) where
  pub too_short : length ws < 2 → refused (refusal 6) ≡ mapped count (subtree d ws)
  too_short h = sym (ap (mapped count) (short d ws h))

  module _ (h : 2 ≤ length ws) where
    pub node_refused : (r : Reason) → refused r ≡ mapped arity (kind_here d ws) → refused r ≡ mapped count (subtree d ws)
    node_refused r e = go (kind_here d ws) refl e
      where
        go : (x : Outcome Kind) → kind_here d ws ≡ x → refused r ≡ mapped arity x → refused r ≡ mapped count (subtree d ws)
        go (refused q) g i = let s : r ≡ q = cc in ap refused s ∙ sym (ap (mapped count) (stopped d ws h g))
        go (accepted κ) g i = absurd (let z : ◌≡◌ {A = ℕ} 0 1 = cc in omega arith)

    -- a node that is not refused has a kind of that many children, and a level
    module _ (n : ℕ) (e : accepted n ≡ mapped arity (kind_here d ws)) where
      kind : Made arity (kind_here d ws) n
      kind = mapped_made arity (kind_here d ws) e

      has_level : 1 ≤ d
      has_level = (node_read d (get_or ws 0 0) (get_or ws 1 0) kind.was).level

      of_node : (x : Outcome ℕ) → x ≡ mapped count (children (subtree (d - 1)) kind.answer (tail 2 ws)) → x ≡ mapped count (subtree d ws)
      of_node x g = g ∙ sym (ap (mapped count) (read_on d ws h kind.was))

    module _ (a : Arity) (e : accepted (children_of a) ≡ mapped arity (kind_here d ws)) where
      -- the same of an arity that is known
      of_arity : (b : Arity) → a ≡ b → accepted (children_of b) ≡ mapped arity (kind_here d ws)
      of_arity b f = ap (λ (c : Arity). accepted (children_of c)) (sym f) ∙ e

      pub one_level : a ≡ One → 1 ≤ d
      one_level f = has_level 1 (of_arity One f)

      pub two_level : a ≡ Two → 1 ≤ d
      two_level f = has_level 2 (of_arity Two f)

      pub leaf_case : a ≡ Zero → accepted 1 ≡ mapped count (subtree d ws)
      leaf_case f =
          let k = kind 0 (of_arity Zero f) in
          of_node 0 (of_arity Zero f) (accepted 1) (leaf_count (subtree (d - 1)) (tail 2 ws) k.answer k.made)

      pub one_case : (f : a ≡ One) (x : Outcome ℕ) → x ≡ mapped count (subtree (d - 1) (tail 2 ws)) → mapped (λ n. n + 1) x ≡ mapped count (subtree d ws)
      one_case f x i =
          let k = kind 1 (of_arity One f) in
          of_node 1 (of_arity One f) _ (ap (mapped (λ n. n + 1)) i ∙ one_count (subtree (d - 1)) (tail 2 ws) k.answer k.made)

      pub one_counted : (f : a ≡ One) (n : ℕ) → accepted n ≡ mapped count (subtree (d - 1) (tail 2 ws)) → accepted (n + 1) ≡ mapped count (subtree d ws)
      one_counted f n i = one_case f (accepted n) i

      pub one_refused : (f : a ≡ One) (r : Reason) → refused r ≡ mapped count (subtree (d - 1) (tail 2 ws)) → refused r ≡ mapped count (subtree d ws)
      one_refused f r i = one_case f (refused r) i

      module _ (f : a ≡ Two) where
        pub left_refused : (r : Reason) → refused r ≡ mapped count (subtree (d - 1) (tail 2 ws)) → refused r ≡ mapped count (subtree d ws)
        left_refused r i =
            let k = kind 2 (of_arity Two f) in
            of_node 2 (of_arity Two f) _ (left_stops (subtree (d - 1)) (tail 2 ws) k.answer k.made i)

        module _ (n : ℕ) (i : accepted n ≡ mapped count (subtree (d - 1) (tail 2 ws))) where
          two_case : (y : Outcome ℕ) → y ≡ mapped count (subtree (d - 1) (tail (2 * n) (tail 2 ws))) → mapped (λ m. n + m + 1) y ≡ mapped count (subtree d ws)
          two_case y k =
              let l = found (d - 1) n (tail 2 ws) i in
              of_node 2 (of_arity Two f) _
              (ap (mapped (λ m. n + m + 1)) (k ∙ ap (λ (s : List ℕ). mapped count (subtree (d - 1) s)) (sym (rest_tail (d - 1) n (tail 2 ws) i)))
              ∙ ap (λ (o : ℕ). mapped (λ m. o + m + 1) (mapped count (subtree (d - 1) l.answer.1))) (sym l.made)
              ∙ two_count (subtree (d - 1)) (tail 2 ws) (kind 2 (of_arity Two f)).answer l.answer.0 l.answer.1 (kind 2 (of_arity Two f)).made l.was)

          pub two_counted : (m : ℕ) → accepted m ≡ mapped count (subtree (d - 1) (tail (2 * n) (tail 2 ws))) → accepted (n + m + 1) ≡ mapped count (subtree d ws)
          two_counted m k = two_case (accepted m) k

          pub right_refused : (r : Reason) → refused r ≡ mapped count (subtree (d - 1) (tail (2 * n) (tail 2 ws))) → refused r ≡ mapped count (subtree d ws)
          right_refused r k = two_case (refused r) k

-- ---- the sums fit

pub level_falls : (d t : ℕ) → 1 ≤ d → d ≡ t → d - 1 < t
level_falls d t h e = omega arith

module _ (d n : ℕ) (ws : List ℕ) (e : accepted n ≡ mapped count (subtree d (tail 2 ws))) where
  pub right_within : 2 * n ≤ length (tail 2 ws)
  right_within = found_fits d n (tail 2 ws) e

  pub one_fits : length ws < 2 ^ 64 → Fits w64 (n + 1)
  one_fits h = omega (arith, right_within, length_tail 2 ws)

  pub right_fits : length ws < 2 ^ 64 → Fits w64 (2 * n)
  right_fits h = omega (arith, right_within, length_tail 2 ws)

  pub right_scaled : length ws * 8 < 2 ^ 63 → Fits w64 (2 * n * 8)
  right_scaled h = omega (arith, right_within, length_tail 2 ws)

  module _ (m : ℕ) (i : accepted m ≡ mapped count (subtree d (tail (2 * n) (tail 2 ws)))) (h : length ws < 2 ^ 64) where
    pub both_fit : Fits w64 (n + m)
    both_fit = omega (arith, right_within, found_fits d m _ i, length_tail (2 * n) (tail 2 ws), length_tail 2 ws)

    pub two_fit : 2 ≤ length ws → Fits w64 (n + m + 1)
    two_fit k = omega (arith, right_within, found_fits d m _ i, length_tail (2 * n) (tail 2 ws), length_tail 2 ws)
