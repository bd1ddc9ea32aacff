-- Text behind the bytes that were put. Assumes nothing.
use mathlib.Core.Path.{◌≡◌, refl, sym, ap, subst, ◌∙◌}
use mathlib.Core.List.{List, [], ◌++◌, append_assoc, append-nil}
use Prim.Native.Nat.{ℕ, ◌+◌, ◌-◌, ◌≤◌}
use native.Mathlib.Omega.{arith}
use lib.ListN.{length, take, drop, length-append}
use lib.Seq.{take_at, drop_at, drop-drop, length-take-le}
use Rattle.std.proofs.lemmas.List.{take-append-drop}
use borrow.Rule.Slice.PartMut.{put_mid}
use Rattle.expr.specs.Parts.{tail, Laid}
use Rattle.expr.specs.LentLaws.{laid_length, laid_on}
use Rattle.report_lines.specs.Promises.{Adds}

front_laid : (put : ℕ) (before : List ℕ) → put ≤ length before → Laid before before (take put before)
front_laid put before h = record {
  is = sym (take-append-drop put before) ∙ ap (λ (n : ℕ). take put before ++ drop n before) (sym (length-take-le put before h));
}

pub adds_none : (put : ℕ) (before : List ℕ) → put ≤ length before → Adds [] put before put before
adds_none put before h = record {
  laid = subst (Laid before before) (sym (append-nil (take put before))) (front_laid put before h);
  put_is = omega arith;
  fits = h;
}

-- a part of the output that is lent, from its first free byte
pub adds_part : (put : ℕ) (before rest text : List ℕ) (k : ℕ) → Laid (tail put before) rest text → k ≡ length text → put + k ≤ length before → Adds text put before (put + k) (put_mid put (length before - put) before rest)
adds_part put before rest text k l e h = record {
  laid = laid_on before before (take put before) (front_laid put before (omega arith)) put (sym (length-take-le put before (omega arith))) rest text l;
  put_is = omega (arith, e);
  fits = h;
}

-- what was put before stays where more is put
laid_over : (before first last xs ys : List ℕ) → Laid before first xs → Laid first last (xs ++ ys) → Laid before last (xs ++ ys)
laid_over before first last xs ys l m = record {
  is =
      m.is
      ∙ ap (λ (u : List ℕ). (xs ++ ys) ++ u)
      (ap (λ (n : ℕ). drop n first) (length-append xs ys)
      ∙ sym (drop-drop (length ys) (length xs) first)
      ∙ ap (drop (length ys)) (ap (drop (length xs)) l.is ∙ drop_at xs (drop (length xs) before) (length xs) refl)
      ∙ drop-drop (length ys) (length xs) before
      ∙ ap (λ (n : ℕ). drop n before) (sym (length-append xs ys)));
}

module _ (text : List ℕ) (put : ℕ) (before : List ℕ) (put' : ℕ) (after : List ℕ) (a : Adds text put before put' after) where
  front_long : length (take put before ++ text) ≡ put'
  front_long = length-append (take put before) text ∙ omega (arith, a.put_is, a.fits, length-take-le put before (omega (arith, a.put_is, a.fits)))

  pub adds_long : length after ≡ length before
  adds_long = laid_length before after (take put before ++ text) a.laid (omega (arith, front_long, a.fits))

  pub adds_front : take put' after ≡ take put before ++ text
  adds_front = ap (take put') a.laid.is ∙ take_at (take put before ++ text) (drop (length (take put before ++ text)) before) put' front_long

  pub adds_on : (texts : List ℕ) (put'' : ℕ) (last : List ℕ) → Adds texts put' after put'' last → Adds (text ++ texts) put before put'' last
  adds_on texts put'' last b = record {
    laid =
        subst (Laid before last) (append_assoc (take put before) text texts)
        (laid_over before after last (take put before ++ text) texts a.laid (subst (λ (u : List ℕ). Laid after last (u ++ texts)) adds_front b.laid));
    put_is = omega (arith, a.put_is, b.put_is, length-append text texts);
    fits = omega (arith, b.fits, adds_long);
  }
