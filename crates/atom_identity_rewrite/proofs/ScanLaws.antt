-- A list of addends that is read, one after the other. Assumes nothing.
use Rattle.std.specs.Prelude.{◌≡◌, refl, List, [], ◌∷◌, ◌++◌, ℕ, zero, suc, ◌+◌, ◌<◌, length, take, get_or}
use Rattle.std.proofs.Common.{sym, ap, subst, ◌∙◌, arith, add-one, take-suc}
use Rattle.std.proofs.lemmas.Fn.{FoldsTo-push}
use Rattle.expr.specs.Parts.{part}
use Rattle.expr.specs.Front.{Whole}
use Rattle.expr.specs.PartLaws.{parts, exact_tree, exact_whole}
use Rattle.rewriting.specs.AtomIdentityRewrite as def
use Rattle.atom_identity_rewrite.specs.declared.addends.Addend.{Addend}
use Rattle.atom_identity_rewrite.specs.declared.addends.SignedTree.{SignedTree}
use Rattle.atom_identity_rewrite.specs.Places.{AddendIs, AddendsAre}
use Rattle.atom_identity_rewrite.specs.Promises.{addend_of, placed_addend, Addended, Named, ReadsOne, Folded, ReadAll}

-- ---- an addend's own subtree

module _ (ws : List ℕ) (a : Addend) where
  pub placed_is : {x : def.Addend} → AddendIs ws a x → placed_addend ws a ≡ x
  placed_is {x} h = λ i. record { expr = exact_tree (part a.start (a.start + a.len) ws) x.expr h.stands.exactly i; negated = h.sign i }

  module _ (h : Named ws a) where
    pub placed_whole : Whole (part a.start (a.start + a.len) ws)
    placed_whole = exact_whole (part a.start (a.start + a.len) ws) h.addend.expr h.is.stands.exactly

pub ruleset places = (parts, placed_whole)

-- ---- each addend of the list is named

named_at : (ws : List ℕ) (list : List Addend) (xs : List def.Addend) (i : ℕ) (d : Addend) → AddendsAre ws list xs → i < length list → Named ws (get_or list i d)
unfolding AddendsAre
named_at ws [] xs i d are less = absurd (omega arith)
named_at ws (a ∷ list) [] i d are less = absurd are
named_at ws (a ∷ list) (x ∷ xs) zero d are less = record { addend = x; is = are.0 }
named_at ws (a ∷ list) (x ∷ xs) (suc i) d are less = named_at ws list xs i d are.1 (omega arith)

pub named_one : (ws : List ℕ) (list : List Addend) (i : ℕ) (d : Addend) → Addended ws list → i < length list → Named ws (get_or list i d)
named_one ws list i d all less = named_at ws list all.addends i d all.are less

-- ---- the last of a list that is read

record Last (ws : List ℕ) (list : List Addend) (a : Addend) (xs : List def.Addend) : Type 0 where
  before : List def.Addend
  last : def.Addend
  are : AddendsAre ws list before
  is : AddendIs ws a last
  all : xs ≡ before ++ (last ∷ [])

last_of_lem : (ws : List ℕ) (list : List Addend) (a : Addend) (xs : List def.Addend) → AddendsAre ws (list ++ (a ∷ [])) xs → Last ws list a xs
unfolding AddendsAre
last_of_lem ws [] a [] are = absurd are
last_of_lem ws [] a (x ∷ []) are = record { before = []; last = x; are = tt; is = are.0; all = refl }
last_of_lem ws [] a (x ∷ y ∷ xs) are = absurd are.1
last_of_lem ws (b ∷ list) a [] are = absurd are
last_of_lem ws (b ∷ list) a (x ∷ xs) are =
    let l : Last ws list a xs = last_of_lem ws list a xs are.1 in
    record { before = x ∷ l.before; last = l.last; are = (are.0, l.are); is = l.is; all = ap (λ (r : List def.Addend). x ∷ r) l.all }

-- ---- what was read up to i

module _ {S : Type 0} (read : S → SignedTree → S → Type 0) (ws : List ℕ) (s : S) where
  nothing : (xs : List def.Addend) → AddendsAre ws [] xs → Folded read s xs s
  unfolding AddendsAre
  nothing [] are = record { folds = refl }
  nothing (x ∷ xs) are = absurd are

  pub none_read : ReadAll ws [] read s s
  none_read = record { folded = nothing }

  module _ (list : List Addend) (i : ℕ) (d : Addend) (t u : S) (x : SignedTree) where
    pub read_on : i < length list → ReadAll ws (take i list) read s t → addend_of x ≡ placed_addend ws (get_or list i d) → read t x u → ReadAll ws (take (i + 1) list) read s u
    read_on inside so_far e one =
        subst (λ (l : List Addend). ReadAll ws l read s u) (sym (ap (λ (m : ℕ). take m list) (add-one i) ∙ take-suc list i d inside))
        (record {
          folded = λ xs are.
              let l : Last ws (take i list) (get_or list i d) xs = last_of_lem ws (take i list) (get_or list i d) xs are in
              let r : ReadsOne read t l.last u = record { addend = x; is = e ∙ placed_is ws (get_or list i d) l.is; reads = one } in
              subst (λ (ys : List def.Addend). Folded read s ys u) (sym l.all)
              (record { folds = FoldsTo-push (ReadsOne read) s l.before t l.last u (so_far.folded l.before l.are).folds r });
        })
