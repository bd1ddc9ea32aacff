-- The candidates of the tree that the words are, one tag after the other, and the public call. Assumes nothing.
use Rattle.std.specs.Prelude.{◌≡◌, refl, Bool, true, false, List, [], ◌∷◌, ◌++◌, ℕ, zero, suc, ◌+◌, ◌*◌, ◌-◌, ◌/◌, ◌≤◌, ◌<◌, eqb, ltb, length, get_or, if◌then◌else◌, Option}
use Rattle.std.proofs.Common.{sym, ap, ap₂, subst, ◌∙◌, arith, append-nil, add-zero, eq-eqb, ne_eqb}
use Rattle.std.proofs.Math.Option as option
use Rattle.std.proofs.Math.Option.{none, some}
use Rattle.expr.specs.Refusals.{refusal}
use Rattle.expr.specs.Outcome.{Outcome, refused, accepted, mapped, ◌and_then◌}
use Rattle.expr.specs.Expr.{Expr, leaf, unary, binary, unary_number, binary_number, encode, nodes}
use Rattle.expr.specs.declared.kind.Leaf.TheVariants.{Constant, Variable}
use Rattle.expr.specs.declared.kind.Unary.{Unary}
use Rattle.expr.specs.declared.kind.Unary.TheVariants.{Not, Neg, Shr, ZExt, SExt, Trunc}
use Rattle.expr.specs.ExprLaws.{length_encode}
use Rattle.expr.specs.Parts.{Laid}
use Rattle.expr.specs.Lent.{lent_after}
use Rattle.expr.specs.Front.{Exactly, Whole, tree_at}
use Rattle.expr.specs.PartLaws.{exact_length}
use Rattle.expr.specs.Parse.{parse}
use Rattle.expr.specs.Room.{room_for, with_words}
use Rattle.width.specs.Checked.{checked, width_of_call}
use Rattle.expr.specs.declared.refusal.Reason.{Reason}
use Rattle.width.specs.CheckedLaws.{given_width, width_refused, checked_parse, checked_tree, too_little, roomy}
use Rattle.rewriting.specs.MatchLaws.{neg_number}
use Rattle.rewriting.specs.AtomIdentityRewrite as def
use Rattle.rewriting.specs.AtomIdentityRewrite.{to_list, match_xor_and_absorb, match_xor_via_or_minus_and, match_and_via_not_or_minus_not, flatten_addends, lax_and, lax_xor, each, is_add, tagged, lax_candidates, candidates}
use Rattle.rewriting.specs.CandidateClaims.{numbered}
use Rattle.rewriting.proofs.CandidateLaws.{claim_at}
use Rattle.atom_identity_rewrite.specs.declared.Tag.{Tag}
use Rattle.atom_identity_rewrite.specs.declared.Found.{Found}
use Rattle.atom_identity_rewrite.specs.declared.Found.TheVariants as found
use Rattle.atom_identity_rewrite.specs.declared.candidate.Candidate.{Candidate}
use Rattle.atom_identity_rewrite.specs.declared.candidate.Offer.{Offer}
use Rattle.atom_identity_rewrite.specs.declared.candidate.Offer.TheVariants as offer
use Rattle.atom_identity_rewrite.specs.Calls.{Asked, candidate, no_more, or_count, asked_for, candidate_at, told, candidate_words}
use Rattle.atom_identity_rewrite.specs.Answers.{tag_number, asked_of}
use Rattle.atom_identity_rewrite.specs.Promises.{candidate_tree, made, OfferIs, Offered, OffersList, OffersAll, sum_candidates, Answers}
use Rattle.atom_identity_rewrite.proofs.OfferLaws.{found_already, joined, offered_made}
use Rattle.atom_identity_rewrite.proofs.RoleLaws.{and_not_three, xor_not_four}

-- ---- tags 6 and 7

module _ (ws : List ℕ) where
  -- an Add by its first word
  add_told : (t : Expr) → Exactly ws t → (b : Bool) → eqb (get_or ws 0 0) 2 ≡ b → is_add t ≡ b
  unfolding is_add encode
  add_told (leaf (Constant c)) x b e = ap (λ (l : List ℕ). eqb (get_or l 0 0) 2) (sym x.words) ∙ e
  add_told (leaf (Variable i)) x b e = ap (λ (l : List ℕ). eqb (get_or l 0 0) 2) (sym x.words) ∙ e
  add_told (unary k t) x b e = sym (no_add k) ∙ ap (λ (l : List ℕ). eqb (get_or l 0 0) 2) (sym x.words) ∙ e
    where
      no_add : (j : Unary) → eqb (unary_number j) 2 ≡ false
      no_add Not = refl
      no_add Neg = refl
      no_add (Shr n) = refl
      no_add (ZExt n) = refl
      no_add (SExt n) = refl
      no_add (Trunc n) = refl
  add_told (binary k l r) x b e = ap (λ (v : List ℕ). eqb (get_or v 0 0) 2) (sym x.words) ∙ e

  module _ (x : Whole ws) (a : Offer) where
    -- what an Add has, and another node
    abbrev by_add : Bool → List def.Candidate
    by_add b = if b then tagged 6 (each lax_and (flatten_addends (tree_at ws))) ++ tagged 7 (each lax_xor (flatten_addends (tree_at ws))) else []

    pub no_lax : (get_or ws 0 0 ≡ 2 → ⊥) → OffersList (lax_candidates (tree_at ws)) a a
    unfolding lax_candidates
    no_lax f =
        subst (λ (cs : List def.Candidate). OffersList cs a a)
        (sym (ap by_add (add_told (tree_at ws) x false (ne_eqb (get_or ws 0 0) 2 f))))
        (record { offers = λ number cs h. subst (λ (ds : List def.Candidate). Offered number ds a) (sym (append-nil cs)) h })

    pub lax_offered : get_or ws 0 0 ≡ 2 → (b c : Offer)
        → OffersAll 6 (each lax_and (flatten_addends (tree_at ws))) a b → OffersAll 7 (each lax_xor (flatten_addends (tree_at ws))) b c → OffersList (lax_candidates (tree_at ws)) a c
    unfolding lax_candidates
    lax_offered e b c f g =
        subst (λ (cs : List def.Candidate). OffersList cs a c)
        (sym (ap by_add (add_told (tree_at ws) x true (eq-eqb (get_or ws 0 0) 2 e))))
        (joined _ _ a b c f g)

pub ruleset laxes = (no_lax, lax_offered)

-- ---- tags 4 to 7, and all tags

module _ (ws : List ℕ) where
  -- a root that is neither an Add nor a Neg is the only addend
  only_addend : (t : Expr) → Exactly ws t → (get_or ws 0 0 ≡ 2 → ⊥) → (get_or ws 0 0 ≡ 8 → ⊥) → length (flatten_addends t) ≡ 1
  unfolding encode def.push_addend
  only_addend (leaf k) x f g = refl
  only_addend (unary k t) x f g =
      ap (λ (b : Bool). length (if b then def.push_addend true t else record { expr = unary k t; negated = false } ∷ []))
      (neg_number k ∙ ne_eqb (unary_number k) 8 (λ e. g (ap (λ (l : List ℕ). get_or l 0 0) x.words ∙ e)))
  only_addend (binary k l r) x f g =
      ap (λ (b : Bool). length (if b then def.push_addend false l ++ def.push_addend false r else record { expr = binary k l r; negated = false } ∷ []))
      (ne_eqb (binary_number k) 2 (λ e. f (ap (λ (v : List ℕ). get_or v 0 0) x.words ∙ e)))

  pub no_sum : Whole ws → (w : ℕ) (a : Offer) → (get_or ws 0 0 ≡ 2 → ⊥) → (get_or ws 0 0 ≡ 8 → ⊥) → OffersList (sum_candidates w (tree_at ws)) a a
  unfolding tagged
  no_sum x w a f g =
      let n = only_addend (tree_at ws) x f g in
      let four = and_not_three w (flatten_addends (tree_at ws)) (λ i. omega (arith, n, i)) in
      let five = xor_not_four w (flatten_addends (tree_at ws)) (λ i. omega (arith, n, i)) in
      subst (λ (cs : List def.Candidate). OffersList cs a a)
      (sym (ap₂ (λ (o p : option.Option Expr). tagged 4 (to_list o) ++ (tagged 5 (to_list p) ++ lax_candidates (tree_at ws))) four five))
      (no_lax ws x a f)

module _ (number w : ℕ) (t : Expr) (m n o : Option Candidate) (b c d e : Offer) where
  pub all_offered : made m ≡ match_xor_and_absorb t → OffersAll 1 (to_list (made m)) (offer.Left number) b
      → made n ≡ match_xor_via_or_minus_and t → OffersAll 2 (to_list (made n)) b c
      → made o ≡ match_and_via_not_or_minus_not t → OffersAll 3 (to_list (made o)) c d
      → OffersList (sum_candidates w t) d e → Offered number (candidates w t) e
  unfolding candidates OfferIs
  all_offered f g h i j k l =
      (joined _ _ (offer.Left number) b e (offered_made 1 m _ _ b f g) (joined _ _ b c e (offered_made 2 n _ b c h i) (joined _ _ c d e (offered_made 3 o _ c d j k) l))
      ).offers number [] (record { is = add-zero number })

pub ruleset tags = (found_already, no_sum, all_offered)

-- ---- `hand_over`

module _ {A : Type 0} where
  -- a number past the last
  past_last : (n : ℕ) (xs : List A) → length xs ≤ n → numbered n xs ≡ none
  unfolding numbered
  past_last n [] h = refl
  past_last zero (x ∷ xs) h = absurd (omega arith)
  past_last (suc n) (x ∷ xs) h = past_last n xs (omega arith)

module _ (t : Expr) (w number : ℕ) where
  module _ (left : ℕ) (h : Offered number (candidates w t) (offer.Left left)) where
    left_is : left + length (candidates w t) ≡ number
    unfolding OfferIs
    left_is = h.is

    pub left_less : left ≤ number
    left_less = omega (arith, left_is)

    none_asked : asked_for number (candidates w t) ≡ no_more (number - left)
    unfolding asked_for
    none_asked =
        ap (or_count (length (candidates w t))) (past_last number (candidates w t) (omega (arith, left_is)))
        ∙ ap no_more (let e : length (candidates w t) ≡ number - left = omega (arith, left_is) in e)

    pub no_more_lem : (out : List ℕ) → Answers t w number (found.NoMore (number - left)) out out
    no_more_lem out = record {
      answer = sym (ap told none_asked);
      memory = sym (ap (λ (q : Asked def.Candidate). lent_after candidate_words (accepted q) out) none_asked);
    }

  module _ (tag : Tag) (c : Candidate) (h : Offered number (candidates w t) (offer.Found tag c)) where
    -- the candidate
    abbrev chosen : def.Candidate
    chosen = record { tag = tag_number tag; tree = candidate_tree c }

    chosen_is : numbered number (candidates w t) ≡ some chosen
    unfolding OfferIs
    chosen_is = h.is

    asked_is : asked_for number (candidates w t) ≡ candidate chosen
    unfolding asked_for
    asked_is = ap (or_count (length (candidates w t))) chosen_is

    pub candidate_fits : (ws out : List ℕ) → Exactly ws t → length ws ≤ length out → length (encode (candidate_tree c)) ≤ length out
    candidate_fits ws out x l = omega (arith, (claim_at w number t chosen chosen_is).fewer, length_encode (candidate_tree c), exact_length ws t x, l)

    pub found_answers : (before after : List ℕ) (n : ℕ) → Laid before after (encode (candidate_tree c)) → n ≡ length (encode (candidate_tree c)) → Answers t w number (found.Candidate tag (n / 2)) before after
    found_answers before after n l e = record {
      answer =
          ap (λ (i : ℕ). candidate (tag_number tag, i)) (let half : n / 2 ≡ nodes (candidate_tree c) = omega (arith, e, length_encode (candidate_tree c)) in half)
          ∙ sym (ap told asked_is);
      memory = l.is ∙ sym (ap (λ (q : Asked def.Candidate). lent_after candidate_words (accepted q) before) asked_is);
    }

pub ruleset handing = (left_less, no_more_lem, candidate_fits, found_answers)

-- ---- `try_match_all`

-- fewer words than the tree has
pub room_refused : (ws : List ℕ) (w room n : ℕ) → accepted n ≡ mapped nodes (checked w ws) → room < 2 * n → refused (refusal 9) ≡ mapped nodes (checked w ws and_then with_words room)
room_refused ws w room n e f =
    let m = checked_tree w ws n e in
    let l : room < 2 * nodes m.tree = omega (arith, m.count) in
    sym (ap (mapped nodes) (too_little _ room m.is l))

module _ (ws : List ℕ) (w number room : ℕ) where
  -- what is asked for, of the tree that was read
  abbrev asked : Outcome Expr → Outcome (Asked def.Candidate)
  asked o = mapped (λ t. asked_for number (candidates w t)) (o and_then with_words room)

  pub width_no : (r : Reason) → refused r ≡ width_of_call w → refused r ≡ candidate_at ws w number room
  unfolding candidate_at
  width_no r e = ap asked (width_refused w r e ws)

  module _ (b : ℕ) (e : accepted b ≡ width_of_call w) where
    pub words_no : (r : Reason) → refused r ≡ parse ws → refused r ≡ candidate_at ws w number room
    unfolding candidate_at
    words_no r f = ap asked (f ∙ checked_parse w b e ws)

    module _ (t : Expr) (f : accepted t ≡ parse ws) where
      -- `with_room` for no more nodes than the tree has
      abbrev with_room : Outcome Expr
      with_room = room_for (λ u. 2 * (nodes u + 0)) room t

      call_is : mapped (λ u. asked_for number (candidates w u)) with_room ≡ candidate_at ws w number room
      unfolding candidate_at room_for
      call_is = ap (λ (n : ℕ). mapped (λ u. asked_for number (candidates w u)) (if ltb room (2 * n) then refused (refusal 9) else accepted t)) (add-zero (nodes t)) ∙ ap asked (f ∙ checked_parse w b e ws)

      pub room_no : (r : Reason) → refused r ≡ with_room → refused r ≡ candidate_at ws w number room
      room_no r g = ap (mapped (λ u. asked_for number (candidates w u))) g ∙ call_is

      module _ (u : Expr) (g : accepted u ≡ with_room) where
        answer_is : accepted (asked_for number (candidates w u)) ≡ candidate_at ws w number room
        answer_is = ap (mapped (λ v. asked_for number (candidates w v))) g ∙ call_is

        module _ (r : Found) (before after : List ℕ) (h : Answers u b number r before after) where
          at_width : Answers u w number r before after
          at_width = subst (λ (v : ℕ). Answers u v number r before after) (given_width w b e) h

          pub answered : accepted (asked_of r) ≡ mapped told (candidate_at ws w number room)
          answered = ap accepted at_width.answer ∙ ap (mapped told) answer_is

          pub written : after ≡ lent_after candidate_words (candidate_at ws w number room) before
          written = at_width.memory ∙ ap (λ (o : Outcome (Asked def.Candidate)). lent_after candidate_words o before) answer_is

-- the words of a tree with room
pub holds_words : (ws : List ℕ) → Whole ws → (room : ℕ) (t : Expr) → accepted (tree_at ws) ≡ room_for (λ u. 2 * (nodes u + 0)) room t → length ws ≤ room
holds_words ws x room t g = omega (arith, exact_length ws (tree_at ws) x, (roomy _ room (accepted t) (sym g)).1)
