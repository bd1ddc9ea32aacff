-- What stands before the slash, the slash, and what stands behind it are the whole text.
use Rattle.std.proofs.Common.{◌≡◌, ◌<◌, ◌++◌, ◌∷◌, [], ℕ, List, ◌+◌, ◌-◌, length, get_or, take, drop, sym, ◌∙◌, ap, append_assoc, add-one, suc, Some, rules}
use Rattle.std.proofs.Math.Seq.{drop-cons}
use Rattle.std.proofs.lemmas.List.{take-append-drop, take_rest}
use Rattle.std.proofs.lemmas.Bool.Decides.{Decides-eqb}
use Rattle.std.proofs.lemmas.Slice.Eq.{strip_suffix_is}
use Rattle.requests.proofs.text.first_list.Goals as goal

parted : (s first : List ℕ) (i : ℕ) → i < length s → get_or s i 0 ≡ 47 → take i s ≡ first ++ 32 ∷ []
    → s ≡ first ++ 32 ∷ 47 ∷ take (length s - (i + 1)) (drop (i + 1) s)
parted s first i l e h =
    let behind : drop i s ≡ 47 ∷ drop (i + 1) s = rw add-one (drop-cons s i 0 l ∙ ap (λ x. x ∷ drop (suc i) s) e) in
    rw take_rest (sym (take-append-drop i s) ∙ ap (λ xs. xs ++ drop i s) h ∙ append_assoc first (32 ∷ []) (drop i s) ∙ ap (λ xs. first ++ (32 ∷ [] ++ xs)) behind)

pub returns : goal.returns
returns c =
    let h : take c.in_ok-slash.slash c.args.lists.now ≡ c.in_ok-first.first.now ++ 32 ∷ [] =
    strip_suffix_is Decides-eqb _ _ (Some c.in_ok-first.first) c.in_ok-first.ensures.cases in
    search (rules, parted c.args.lists.now c.in_ok-first.first.now c.in_ok-slash.slash c.in_ok-slash.ensures.0 c.in_ok-slash.ensures.1 h)
