-- In a list of whole nodes, at most 512, `span_of` is the length of the tree that stands in front, and refuses with 6 or 3 where
-- `parse` does. Assumes nothing.
use Rattle.std.specs.Prelude.{◌≡◌, refl, ◌⊎◌, Bool, true, false, not, List, [], ◌∷◌, ◌++◌, ℕ, zero, suc, ◌+◌, ◌*◌, ◌/◌, ◌%◌, ◌≤◌, T, eqb, length, drop, if◌then◌else◌}
use Rattle.std.proofs.Common.{sym, subst, ◌∙◌, ⊎_elim, append_assoc, arith, length-append}
use Rattle.std.proofs.Math.Path.{ap}
use Rattle.arith.specs.ChoiceLaws.{if_yes}
use Rattle.expr.specs.declared.refusal.Reason.{Reason}
use Rattle.expr.specs.Refusals.{refusal}
use Rattle.expr.specs.Outcome.{Outcome, refused, accepted, mapped, ◌and_then◌}
use Rattle.expr.specs.Expr.{Expr, leaf, unary, binary, encode, nodes}
use Rattle.expr.specs.Parse.{Kind, none, one, two, arity, arity_of, kinds, kind_at, operand_ok, node_kind, children, node, subtree, whole, word_count_ok, parse}
use Rattle.expr.specs.Span.{due_words, span_of}
use Rattle.expr.specs.OutcomeLaws.{then_accepted, then_refused, mapped_mapped, mapped_same}
use Rattle.expr.specs.KindLaws.{number, operand, number_arity, arity_is}
use Rattle.expr.specs.ExprLaws.{nodes_pos, length_encode}
use Rattle.expr.specs.ParseLaws.{count_yes, subtree_sound, node_read}

pub due_none : (ws : List ℕ) → due_words ws 0 ≡ accepted 0
unfolding due_words
due_none [] = refl
due_none (k ∷ []) = refl
due_none (k ∷ o ∷ ws) = refl

-- a node of n children leaves n more subtrees due
pub due_node : (k o : ℕ) (ws : List ℕ) (due : ℕ) {n : ℕ} → arity_of k ≡ accepted n → (d : ℕ) → d ≡ n + due
    → due_words (k ∷ o ∷ ws) (suc due) ≡ mapped (λ m. 2 + m) (due_words ws d)
unfolding due_words
due_node k o ws due e d f = then_accepted e _ ∙ ap (λ (i : ℕ). mapped (λ m. 2 + m) (due_words ws i)) (sym f)

-- subtrees one after the other: the words of the first a, and then those of the next b behind them
abbrev pub behind : List ℕ → ℕ → Outcome ℕ → Outcome ℕ
behind ws b o = o and_then (λ n. mapped (λ m. n + m) (due_words (drop n ws) b))

none_before : (ws : List ℕ) (b : ℕ) → due_words ws (0 + b) ≡ behind ws b (accepted 0)
none_before ws b =
    ap (due_words ws) (let e : 0 + b ≡ b = omega arith in e)
    ∙ sym (mapped_same (λ m. 0 + m) (λ m. let e : 0 + m ≡ m = omega arith in e) (due_words ws b))

two_before : (k o b : ℕ) (ws : List ℕ) (x : Outcome ℕ) → mapped (λ m. 2 + m) (behind ws b x) ≡ behind (k ∷ o ∷ ws) b (mapped (λ m. 2 + m) x)
two_before k o b ws (refused r) = refl
two_before k o b ws (accepted n) =
    mapped_mapped _ _ (λ m. 2 + n + m) (λ m. let e : 2 + (n + m) ≡ 2 + n + m = omega arith in e) (due_words (drop n ws) b)
    ∙ ap (λ (i : ℕ). mapped (λ m. 2 + n + m) (due_words (drop i (k ∷ o ∷ ws)) b)) (let e : suc (suc n) ≡ 2 + n = omega arith in e)

node_before : (k o a b : ℕ) (ws : List ℕ) → ((n : ℕ) → due_words ws (n + (a + b)) ≡ behind ws b (due_words ws (n + a))) → (x : Outcome ℕ)
    → (x and_then (λ n. mapped (λ m. 2 + m) (due_words ws (n + (a + b))))) ≡ behind (k ∷ o ∷ ws) b (x and_then (λ n. mapped (λ m. 2 + m) (due_words ws (n + a))))
node_before k o a b ws h (refused r) = refl
node_before k o a b ws h (accepted n) = ap (mapped (λ m. 2 + m)) (h n) ∙ two_before k o b ws (due_words ws (n + a))

pub due_add : (ws : List ℕ) (a b : ℕ) → due_words ws (a + b) ≡ behind ws b (due_words ws a)
unfolding due_words
due_add [] zero b = none_before [] b
due_add (k ∷ []) zero b = none_before (k ∷ []) b
due_add (k ∷ o ∷ ws) zero b = none_before (k ∷ o ∷ ws) b
due_add [] (suc a) b = ap (due_words []) (let e : suc a + b ≡ suc (a + b) = omega arith in e)
due_add (k ∷ []) (suc a) b = ap (due_words (k ∷ [])) (let e : suc a + b ≡ suc (a + b) = omega arith in e)
due_add (k ∷ o ∷ ws) (suc a) b =
    ap (due_words (k ∷ o ∷ ws)) (let e : suc a + b ≡ suc (a + b) = omega arith in e)
    ∙ node_before k o a b ws (λ n. ap (due_words ws) (let e : n + (a + b) ≡ n + a + b = omega arith in e) ∙ due_add ws (n + a) b) (arity_of k)

-- a subtree takes two words and what its children take, whatever its operands and depth
pub span_leaf : (k o : ℕ) (ws : List ℕ) → arity_of k ≡ accepted 0 → due_words (k ∷ o ∷ ws) 1 ≡ accepted 2
span_leaf k o ws e = due_node k o ws 0 e 0 (omega arith) ∙ ap (mapped (λ m. 2 + m)) (due_none ws)

pub span_one : (k o : ℕ) (ws : List ℕ) → arity_of k ≡ accepted 1 → due_words (k ∷ o ∷ ws) 1 ≡ mapped (λ m. 2 + m) (due_words ws 1)
span_one k o ws e = due_node k o ws 0 e 1 (omega arith)

pub span_two : (k o : ℕ) (ws : List ℕ) → arity_of k ≡ accepted 2
    → due_words (k ∷ o ∷ ws) 1 ≡ mapped (λ m. 2 + m) (due_words ws 1 and_then (λ n. mapped (λ m. n + m) (due_words (drop n ws) 1)))
span_two k o ws e = due_node k o ws 0 e 2 (omega arith) ∙ ap (mapped (λ m. 2 + m)) (due_add ws 1 1)

pub due_encode : (t : Expr) (rest : List ℕ) (due : ℕ) → due_words (encode t ++ rest) (suc due) ≡ mapped (λ m. 2 * nodes t + m) (due_words rest due)
unfolding encode nodes
due_encode (leaf k) rest due = due_node (number (none k)) (operand (none k)) rest due (number_arity (none k)) due (omega arith)
due_encode (unary k t) rest due =
    due_node (number (one k)) (operand (one k)) (encode t ++ rest) due (number_arity (one k)) (suc due) (omega arith)
    ∙ ap (mapped (λ m. 2 + m)) (due_encode t rest due)
    ∙ mapped_mapped _ _ _ (λ m. omega arith) (due_words rest due)
due_encode (binary k l r) rest due =
    due_node (number (two k)) 0 ((encode l ++ encode r) ++ rest) due (number_arity (two k)) (suc (suc due)) (omega arith)
    ∙ ap (mapped (λ m. 2 + m))
    (ap (λ (ws : List ℕ). due_words ws (suc (suc due))) (append_assoc (encode l) (encode r) rest)
    ∙ due_encode l (encode r ++ rest) (suc due)
    ∙ ap (mapped (λ m. 2 * nodes l + m)) (due_encode r rest due)
    ∙ mapped_mapped _ _ (λ m. 2 * nodes l + (2 * nodes r + m)) (λ m. refl) (due_words rest due))
    ∙ mapped_mapped _ _ _ (λ m. omega arith) (due_words rest due)

pub span_encode : (ws : List ℕ) (t : Expr) (rest : List ℕ) → ws ≡ encode t ++ rest → T (word_count_ok (length ws)) → span_of ws ≡ accepted (2 * nodes t)
unfolding span_of
span_encode ws t rest e h =
    if_yes (word_count_ok (length ws)) _ _ h
    ∙ ap (λ (l : List ℕ). due_words l 1) e
    ∙ due_encode t rest 0
    ∙ ap (mapped (λ m. 2 * nodes t + m)) (due_none rest)
    ∙ ap accepted (let s : 2 * nodes t + 0 ≡ 2 * nodes t = omega arith in s)

-- what `span` answers for at most 512 nodes that begin with those of a tree: the tree's words, and no refusal
module _ (ws : List ℕ) (t : Expr) (rest : List ℕ) (e : ws ≡ encode t ++ rest) (even : length ws % 2 ≡ 0) (short : length ws ≤ 1024) where
  spanned : span_of ws ≡ accepted (2 * nodes t)
  spanned =
      let m : length ws ≡ 2 * (length ws / 2) = omega arith in
      let some : 1 ≤ length ws / 2 = omega (arith, ap length e, length-append (encode t) rest, length_encode t, nodes_pos t) in
      span_encode ws t rest e (subst (λ (n : ℕ). T (word_count_ok n)) (sym m) (count_yes (length ws / 2) some (omega arith)))

  pub span_counted : (n : ℕ) → accepted n ≡ span_of ws → n ≡ length (encode t)
  span_counted n f = let s : n ≡ 2 * nodes t = (let z = spanned in cc) in s ∙ sym (length_encode t)

  pub span_not_refused : (r : Reason) → refused r ≡ span_of ws → ⊥
  span_not_refused r f = let z = spanned in let y : ◌≡◌ {A = ℕ} 0 1 = cc in omega arith

-- ---- refusals

-- the refusals that both give
abbrev pub Shape : Reason → Type 0
Shape r = (r ≡ refusal 6) ⊎ (r ≡ refusal 3)

-- a refusal of another number is none of them
other : (n : ℕ) {A : Type 0} {r : Reason} → refusal n ≡ r → Shape r → (n ≡ 6 → ⊥) → (n ≡ 3 → ⊥) → A
other n e h f g = absurd (⊎_elim (λ s. f (ap (λ (r : Reason). r.number) (e ∙ s))) (λ s. g (ap (λ (r : Reason). r.number) (e ∙ s))) h)

-- a node that is refused for its shape has no known kind
node_shape : (levels k o : ℕ) {r : Reason} → node_kind levels k o ≡ refused r → Shape r → arity_of k ≡ refused r
unfolding node_kind
node_shape levels k o {r} e h = arity_is o k ∙ known (kind_at k (kinds o)) e
  where
    limits : (ok none_left : Bool) (κ : Kind) → (if not ok then refused (refusal 4) else if none_left then refused (refusal 5) else accepted κ) ≡ refused r → accepted (arity κ) ≡ refused r
    limits true false κ f = absurd (let z : ◌≡◌ {A = ℕ} 0 1 = cc in omega arith)
    limits true true κ f = let s : refusal 5 ≡ r = cc in other 5 s h (λ z. omega arith) (λ z. omega arith)
    limits false none_left κ f = let s : refusal 4 ≡ r = cc in other 4 s h (λ z. omega arith) (λ z. omega arith)

    known : (x : Outcome Kind) → (x and_then (λ κ. if not (operand_ok k o) then refused (refusal 4) else if eqb levels 0 then refused (refusal 5) else accepted κ)) ≡ refused r → mapped arity x ≡ refused r
    known (refused q) f = let s : q ≡ r = cc in ap refused s
    known (accepted κ) f = limits (operand_ok k o) (eqb levels 0) κ f

-- what is made of an accepted reading does not refuse
refused_before : {A B : Type 0} (o : Outcome A) (f : A → B) {r : Reason} → (o and_then (λ a. accepted (f a))) ≡ refused r → o ≡ refused r
refused_before (refused q) f {r} e = let s : q ≡ r = cc in ap refused s
refused_before (accepted a) f e = absurd (let z : ◌≡◌ {A = ℕ} 0 1 = cc in omega arith)

-- a reader of subtrees, and the same refusals of their lengths
abbrev Agrees : (List ℕ → Outcome (Expr × List ℕ)) → Type 0
Agrees next = (ws : List ℕ) (due : ℕ) (r : Reason) → next ws ≡ refused r → Shape r → due_words ws (suc due) ≡ refused r

-- it holds of a node if it holds of its children
module _ (d k o : ℕ) (ws : List ℕ) (due : ℕ) {r : Reason} (h : Shape r) (agrees : Agrees (subtree d)) where
  second : (x : Outcome (Expr × List ℕ)) (f : Expr × List ℕ → Expr × List ℕ → Expr × List ℕ) → subtree d ws ≡ x
      → (x and_then (λ p. subtree d p.1 and_then (λ q. accepted (f p q)))) ≡ refused r → due_words ws (suc (suc due)) ≡ refused r
  second (refused q) f g i = let s : q ≡ r = cc in agrees ws (suc due) r (g ∙ ap refused s) h
  second (accepted p) f g i =
      ap (λ (l : List ℕ). due_words l (suc (suc due))) (subtree_sound d ws p.0 p.1 g).words
      ∙ due_encode p.0 p.1 (suc due)
      ∙ ap (mapped (λ m. 2 * nodes p.0 + m)) (agrees p.1 due r (refused_before (subtree d p.1) (f p) i) h)

  below : (κ : Kind) → arity_of k ≡ accepted (arity κ) → children (subtree d) κ ws ≡ refused r → due_words (k ∷ o ∷ ws) (suc due) ≡ refused r
  below (none j) a g = absurd (let z : ◌≡◌ {A = ℕ} 0 1 = cc in omega arith)
  below (one j) a g = due_node k o ws due a (suc due) (omega arith) ∙ ap (mapped (λ m. 2 + m)) (agrees ws due r (refused_before (subtree d ws) _ g) h)
  below (two j) a g = due_node k o ws due a (suc (suc due)) (omega arith) ∙ ap (mapped (λ m. 2 + m)) (second (subtree d ws) _ refl g)

  at_node : (x : Outcome Kind) → node_kind (suc d) k o ≡ x → (x and_then (λ κ. children (subtree d) κ ws)) ≡ refused r → due_words (k ∷ o ∷ ws) (suc due) ≡ refused r
  unfolding due_words
  at_node (refused q) f g = let s : q ≡ r = cc in then_refused (node_shape (suc d) k o (f ∙ ap refused s) h) _
  at_node (accepted κ) f g = below κ (ap arity_of (node_read (suc d) k o f).reads.number_is ∙ number_arity κ) g

-- where no level is left no kind is accepted
no_level : (k o : ℕ) (ws : List ℕ) (due : ℕ) {r : Reason} → Shape r → (f : Kind → Outcome (Expr × List ℕ)) (x : Outcome Kind)
    → node_kind 0 k o ≡ x → (x and_then f) ≡ refused r → due_words (k ∷ o ∷ ws) (suc due) ≡ refused r
unfolding due_words
no_level k o ws due {r} h f (refused q) g e = let s : q ≡ r = cc in then_refused (node_shape 0 k o (g ∙ ap refused s) h) _
no_level k o ws due h f (accepted κ) g e = absurd (omega (arith, (node_read 0 k o g).level))

pub due_shape : (d : ℕ) → Agrees (subtree d)
unfolding subtree node due_words
due_shape zero [] due r e h = let s : refusal 6 ≡ r = cc in ap refused s
due_shape zero (k ∷ []) due r e h = let s : refusal 6 ≡ r = cc in ap refused s
due_shape zero (k ∷ o ∷ ws) due r e h = no_level k o ws due h _ (node_kind 0 k o) refl e
due_shape (suc d) [] due r e h = let s : refusal 6 ≡ r = cc in ap refused s
due_shape (suc d) (k ∷ []) due r e h = let s : refusal 6 ≡ r = cc in ap refused s
due_shape (suc d) (k ∷ o ∷ ws) due r e h = at_node d k o ws due h (due_shape d) (node_kind (suc d) k o) refl e

pub span_refused : (ws : List ℕ) {r : Reason} → parse ws ≡ refused r → Shape r → span_of ws ≡ refused r
unfolding parse span_of
span_refused ws {r} e h = counted (word_count_ok (length ws)) e
  where
    read : (x : Outcome (Expr × List ℕ)) → subtree 64 ws ≡ x → (x and_then whole) ≡ refused r → due_words ws 1 ≡ refused r
    read (refused q) f g = let s : q ≡ r = cc in due_shape 64 ws 0 r (f ∙ ap refused s) h
    read (accepted (t, [])) f g = absurd (let z : ◌≡◌ {A = ℕ} 0 1 = cc in omega arith)
    read (accepted (t, y ∷ ys)) f g = let s : refusal 7 ≡ r = cc in other 7 s h (λ z. omega arith) (λ z. omega arith)

    counted : (b : Bool) → (if b then subtree 64 ws and_then whole else refused (refusal 2)) ≡ refused r → (if b then due_words ws 1 else refused (refusal 2)) ≡ refused r
    counted true g = read (subtree 64 ws) refl g
    counted false g = let s : refusal 2 ≡ r = cc in ap refused s
