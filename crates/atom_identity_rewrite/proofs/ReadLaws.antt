-- Reading the addends, from the first to the last. Assumes nothing.
use Rattle.std.specs.Prelude.{◌≡◌, List, [], ◌∷◌, ◌++◌, ℕ, length}
use Rattle.std.proofs.Common.{sym, ap, subst, ◌∙◌, append-nil, append_assoc}
use Rattle.std.proofs.lemmas.Fn.{chained_keeps}
use Rattle.std.proofs.Math.Option as option
use Rattle.std.proofs.Math.Option.{none}
use Rattle.expr.specs.Expr.{Expr}
use Rattle.rewriting.specs.AtomIdentityRewrite as def
use Rattle.rewriting.specs.AtomIdentityRewrite.{as_one, as_or, as_minus_two, as_minus_twice_or, lax_and, lax_xor, each}
use Rattle.atom_identity_rewrite.specs.declared.addends.SignedTree.{SignedTree}
use Rattle.atom_identity_rewrite.specs.declared.candidate.Offer.{Offer}
use Rattle.atom_identity_rewrite.specs.declared.reading.Roles.{Roles}
use Rattle.atom_identity_rewrite.specs.Promises.{addend_of, no_roles, ReadsOne, Folded, Sorted, Sorts, AndOfRoles, XorOfRoles, OffersAll}
use Rattle.atom_identity_rewrite.proofs.OfferLaws.{offered_none, offered_both}
use Rattle.atom_identity_rewrite.proofs.SortLaws.{none_sorted}
use Rattle.atom_identity_rewrite.proofs.RoleLaws.{and_not_three, xor_not_four}

-- ---- tags 4 and 5

module _ (f : def.Addend → option.Option Expr) (g : def.Addend → option.Option (Expr × Expr)) (read : Roles → SignedTree → Roles → Type 0)
    (sorts : (a : SignedTree) (r s : Roles) → read r a s → Sorts f g (addend_of a) r s) where
  all_sorted : (xs : List def.Addend) (r : Roles) → Folded read no_roles xs r → Sorted f g xs r
  all_sorted xs r h =
      chained_keeps (ReadsOne read) (Sorted f g)
      (λ ys q x v k one. subst (λ (y : def.Addend). Sorted f g (ys ++ (y ∷ [])) v) one.is ((sorts one.addend q v one.reads).sorts ys k))
      xs no_roles r (none_sorted f g) h.folds

module _ (w : ℕ) (xs : List def.Addend) (read : Roles → SignedTree → Roles → Type 0) (start r : Roles) (e : start ≡ no_roles) (h : Folded read start xs r) (o : option.Option Expr) where
  begun : Folded read no_roles xs r
  begun = subst (λ (s : Roles). Folded read s xs r) e h

  pub and_answer : ((a : SignedTree) (q s : Roles) → read q a s → Sorts (as_one w) as_or (addend_of a) q s) → length xs ≡ 3 → AndOfRoles r o → o ≡ def.match_and_via_not_or_plus_a_plus_one w xs
  and_answer f n k = k.is w xs n (all_sorted (as_one w) as_or read f xs r begun)

  pub xor_answer : ((a : SignedTree) (q s : Roles) → read q a s → Sorts (as_minus_two w) (as_minus_twice_or w) (addend_of a) q s) → length xs ≡ 4 → XorOfRoles r o → o ≡ def.match_xor_via_ornot_flat w xs
  xor_answer f n k = k.is w xs n (all_sorted (as_minus_two w) (as_minus_twice_or w) read f xs r begun)

-- where the addends are not so many
module _ (w n : ℕ) (xs : List def.Addend) (e : n ≡ length xs) where
  pub and_count : (n ≡ 3 → ⊥) → none ≡ def.match_and_via_not_or_plus_a_plus_one w xs
  and_count f = sym (and_not_three w xs (λ i. f (e ∙ i)))

  pub xor_count : (n ≡ 4 → ⊥) → none ≡ def.match_xor_via_ornot_flat w xs
  xor_count f = sym (xor_not_four w xs (λ i. f (e ∙ i)))

pub count_is : (n m : ℕ) (xs : List def.Addend) → n ≡ length xs → n ≡ m → length xs ≡ m
count_is n m xs e f = sym e ∙ f

pub ruleset role_reads = (and_answer, xor_answer, and_count, xor_count, count_is)

-- ---- tags 6 and 7

each_more : (f : def.Addend → List Expr) (x : def.Addend) (xs : List def.Addend) → each f (xs ++ (x ∷ [])) ≡ each f xs ++ f x
unfolding each
each_more f x [] = append-nil (f x)
each_more f x (a ∷ xs) = ap (λ (us : List Expr). f a ++ us) (each_more f x xs) ∙ sym (append_assoc (f a) (each f xs) (f x))

module _ (tag : ℕ) (f : def.Addend → List Expr) (read : Offer → SignedTree → Offer → Type 0)
    (offers : (a : SignedTree) (r s : Offer) → read r a s → OffersAll tag (f (addend_of a)) r s) where
  pub all_offered : (xs : List def.Addend) (first r : Offer) → Folded read first xs r → OffersAll tag (each f xs) first r
  unfolding each
  all_offered xs first r h =
      chained_keeps (ReadsOne read) (λ ys q. OffersAll tag (each f ys) first q)
      (λ ys q x v k one.
      subst (λ (us : List Expr). OffersAll tag us first v) (sym (each_more f x ys))
      (offered_both tag (each f ys) (f x) first q v k (subst (λ (y : def.Addend). OffersAll tag (f y) q v) one.is (offers one.addend q v one.reads))))
      xs first r (offered_none tag first) h.folds
