-- Candidates that are offered one after the other, and the lax ones of an addend. Assumes nothing.
use Rattle.std.specs.Prelude.{◌≡◌, refl, Bool, true, false, List, [], ◌∷◌, ◌++◌, ℕ, zero, suc, ◌+◌, ◌-◌, length, if◌then◌else◌, Option, Some, None}
use Rattle.std.proofs.Common.{sym, ap, subst, arith, append_assoc, append-nil, length-append}
use Rattle.std.proofs.Math.Option as option
use Rattle.std.proofs.Math.Option.{none, some}
use Rattle.expr.specs.Expr.{Expr}
use Rattle.expr.specs.declared.kind.Binary.TheVariants.{Or}
use Rattle.expr.specs.Optional.{◌or_else◌}
use Rattle.expr.specs.OptionalLaws.{not_both}
use Rattle.rewriting.specs.AtomIdentityRewrite as def
use Rattle.rewriting.specs.AtomIdentityRewrite.{is_constant_node, or_in_product, to_list, lax_and_of, lax_xor_of, of_operands, lax_and, lax_xor, tagged}
use Rattle.expr.specs.Trees.{operands_of}
use Rattle.rewriting.specs.CandidateClaims.{numbered}
use Rattle.atom_identity_rewrite.specs.declared.Tag.{Tag}
use Rattle.atom_identity_rewrite.specs.declared.candidate.Candidate.{Candidate}
use Rattle.atom_identity_rewrite.specs.declared.candidate.Offer.{Offer}
use Rattle.atom_identity_rewrite.specs.declared.candidate.Offer.TheVariants as offer
use Rattle.atom_identity_rewrite.specs.Answers.{tag_number}
use Rattle.atom_identity_rewrite.specs.Promises.{candidate_tree, made, OfferIs, Offered, OffersList, OffersAll}

-- ---- a candidate by its number

module _ {A : Type 0} where
  number_earlier : (n : ℕ) (xs ys : List A) {x : A} → numbered n xs ≡ some x → numbered n (xs ++ ys) ≡ some x
  unfolding numbered
  number_earlier n [] ys {x} e = not_both none refl e
  number_earlier zero (a ∷ xs) ys e = e
  number_earlier (suc n) (a ∷ xs) ys e = number_earlier n xs ys e

  number_last : (xs : List A) (y : A) → numbered (length xs) (xs ++ (y ∷ [])) ≡ some y
  unfolding numbered
  number_last [] y = refl
  number_last (x ∷ xs) y = number_last xs y

-- ---- nothing more is offered

pub offered_none : (tag : ℕ) (a : Offer) → OffersAll tag [] a a
unfolding tagged
offered_none tag a = record { offers = λ number cs h. subst (λ (ds : List def.Candidate). Offered number ds a) (sym (append-nil cs)) h }

pub found_already : (a : Offer) (t : Tag) (c : Candidate) → a ≡ offer.Found t c → (more : List def.Candidate) → OffersList more a a
unfolding OfferIs
found_already a t c e more =
    subst (λ (o : Offer). OffersList more o o) (sym e) (record { offers = λ number cs h. record { is = number_earlier number cs more h.is } })

-- ---- `with_match`

pub offer_none : (tag : ℕ) (m : Option Candidate) (a : Offer) → ((c : Candidate) → m ≡ Some c → ⊥) → OffersAll tag (to_list (made m)) a a
offer_none tag None a f = offered_none tag a
offer_none tag (Some c) a f = absurd (f c refl)

module _ (m : Option Candidate) (c : Candidate) (e : m ≡ Some c) (a : Offer) (n : ℕ) (f : a ≡ offer.Left n) where
  -- the candidates with one more
  more_is : (tag : ℕ) → tagged tag (to_list (made m)) ≡ record { tag = tag; tree = candidate_tree c } ∷ []
  unfolding tagged
  more_is tag = ap (λ (p : Option Candidate). tagged tag (to_list (made p))) e

  left_is : (number : ℕ) (cs : List def.Candidate) → Offered number cs a → n + length cs ≡ number
  unfolding OfferIs
  left_is number cs h = subst (OfferIs number cs) f h.is

  pub offer_now : (tag : Tag) → n ≡ 0 → OffersAll (tag_number tag) (to_list (made m)) a (offer.Found tag c)
  unfolding OfferIs
  offer_now tag z =
      let x : def.Candidate = record { tag = tag_number tag; tree = candidate_tree c } in
      subst (λ (more : List def.Candidate). OffersList more a (offer.Found tag c)) (sym (more_is (tag_number tag)))
      (record {
        offers = λ number cs h.
            let i : length cs ≡ number = omega (arith, z, left_is number cs h) in
            record { is = subst (λ (k : ℕ). numbered k (cs ++ (x ∷ [])) ≡ some x) i (number_last cs x) };
      })

  pub offer_passed : (tag : ℕ) → (n ≡ 0 → ⊥) → OffersAll tag (to_list (made m)) a (offer.Left (n - 1))
  unfolding OfferIs
  offer_passed tag g =
      let x : def.Candidate = record { tag = tag; tree = candidate_tree c } in
      subst (λ (more : List def.Candidate). OffersList more a (offer.Left (n - 1))) (sym (more_is tag))
      (record { offers = λ number cs h. record { is = omega (arith, g, left_is number cs h, length-append cs (x ∷ [])) } })

pub ruleset offering = (offer_none, found_already, offer_now, offer_passed)

-- ---- offers that follow one another

pub joined : (cs ds : List def.Candidate) (a b c : Offer) → OffersList cs a b → OffersList ds b c → OffersList (cs ++ ds) a c
joined cs ds a b c f g = record {
  offers = λ number es h. subst (λ (l : List def.Candidate). Offered number l c) (append_assoc es cs ds) (g.offers number (es ++ cs) (f.offers number es h));
}

tagged_append : (n : ℕ) (us vs : List Expr) → tagged n (us ++ vs) ≡ tagged n us ++ tagged n vs
unfolding tagged
tagged_append n [] vs = refl
tagged_append n (u ∷ us) vs = ap (λ (cs : List def.Candidate). record { tag = n; tree = u } ∷ cs) (tagged_append n us vs)

pub offered_both : (tag : ℕ) (us vs : List Expr) (a b c : Offer) → OffersAll tag us a b → OffersAll tag vs b c → OffersAll tag (us ++ vs) a c
offered_both tag us vs a b c f g = subst (λ (cs : List def.Candidate). OffersList cs a c) (sym (tagged_append tag us vs)) (joined (tagged tag us) (tagged tag vs) a b c f g)

-- a matcher's answer, by its definition
pub offered_made : (tag : ℕ) (m : Option Candidate) (o : option.Option Expr) (a b : Offer) → made m ≡ o → OffersAll tag (to_list (made m)) a b → OffersAll tag (to_list o) a b
offered_made tag m o a b e f = subst (λ (p : option.Option Expr). OffersAll tag (to_list p) a b) e f

pub two_offered : (tag : ℕ) (m n : Option Candidate) (o p : option.Option Expr) (a b c : Offer)
    → OffersAll tag (to_list (made m)) a b → OffersAll tag (to_list (made n)) b c → made m ≡ o → made n ≡ p → OffersAll tag (to_list o ++ to_list p) a c
two_offered tag m n o p a b c f g e h = offered_both tag (to_list o) (to_list p) a b c (offered_made tag m o a b e f) (offered_made tag n p b c h g)

-- ---- `lax_and`, `lax_xor`

module _ (tag : ℕ) (t : Expr) (s : Bool) (a : Offer) where
  -- the addend
  abbrev this : def.Addend
  this = record { expr = t; negated = s }

  pub lax_minus : s ≡ true → OffersAll tag (lax_and this) a a
  unfolding lax_and
  lax_minus e = subst (λ (b : Bool). OffersAll tag (if b then [] else of_operands lax_and_of (operands_of Or t)) a a) (sym e) (offered_none tag a)

  pub lax_no_or : s ≡ false → none ≡ operands_of Or t → OffersAll tag (lax_and this) a a
  unfolding lax_and
  lax_no_or e f =
      subst (λ (b : Bool). OffersAll tag (if b then [] else of_operands lax_and_of (operands_of Or t)) a a) (sym e)
      (subst (λ (o : option.Option (Expr × Expr)). OffersAll tag (of_operands lax_and_of o) a a) f (offered_none tag a))

  pub lax_or : s ≡ false → (l r : Expr) → some (l, r) ≡ operands_of Or t → (b : Offer) → OffersAll tag (lax_and_of (l, r)) a b → OffersAll tag (lax_and this) a b
  unfolding lax_and
  lax_or e l r f b g =
      subst (λ (c : Bool). OffersAll tag (if c then [] else of_operands lax_and_of (operands_of Or t)) a b) (sym e)
      (subst (λ (o : option.Option (Expr × Expr)). OffersAll tag (of_operands lax_and_of o) a b) f g)

  pub xor_no_or : none ≡ (operands_of Or t or_else or_in_product is_constant_node t) → OffersAll tag (lax_xor this) a a
  unfolding lax_xor
  xor_no_or f = subst (λ (o : option.Option (Expr × Expr)). OffersAll tag (of_operands lax_xor_of o) a a) f (offered_none tag a)

  pub xor_or : (l r : Expr) → some (l, r) ≡ (operands_of Or t or_else or_in_product is_constant_node t) → (b : Offer) → OffersAll tag (lax_xor_of (l, r)) a b → OffersAll tag (lax_xor this) a b
  unfolding lax_xor
  xor_or l r f b g = subst (λ (o : option.Option (Expr × Expr)). OffersAll tag (of_operands lax_xor_of o) a b) f g

pub ruleset lax_offers = (two_offered, lax_minus, lax_no_or, lax_or, xor_no_or, xor_or)
