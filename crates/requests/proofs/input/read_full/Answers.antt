-- What a read puts behind what was read before is what the reader gives next.
use Rattle.std.proofs.Common.{◌≡◌, ◌+◌, ◌-◌, ◌≤◌, ℕ, List, ◌++◌, rules, arith, length, take, slice_range, sym, ap, ◌∙◌, subst, le_refl, drop_at, length-take-le}
use Rattle.std.proofs.lemmas.Slice.{take-put_mid_below}
use Rattle.std.specs.Io.KnownBytes.{Consumes}
use Rattle.std.proofs.KnownBytes.{Consumes-trans}
use borrow.Rule.Slice.PartMut.{put_mid, post_of}
use lib.Seq.{take-add, take-append-le}
use Rattle.requests.proofs.input.read_full.Goals as goal

-- the first b elements, where the first a are as before
split_at : (a b : ℕ) (old new : List ℕ) → a ≤ b → take a new ≡ take a old → take a old ++ slice_range new a b ≡ take b new
split_at a b old new h front =
    let same : a + (b - a) ≡ b = omega arith in
    ap (λ l. l ++ slice_range new a b) (sym front) ∙ sym (take-add a (b - a) new) ∙ ap (λ n. take n new) same

-- the n elements behind the first a are those of what was put there
put_there : (a k n : ℕ) (xs ys : List ℕ) → a ≤ length xs → n ≤ length ys → slice_range (put_mid a k xs ys) a (a + n) ≡ take n ys
put_there a k n xs ys within fits =
    let same : (a + n) - a ≡ n = omega arith in
    let after = post_of a k xs in
    ap (take ((a + n) - a)) (drop_at (take a xs) (ys ++ after) a (length-take-le a xs within)) ∙ ap (λ m. take m (ys ++ after)) same
    ∙ take-append-le n ys after fits

pub loop-preserved : goal.loop-preserved
loop-preserved g c =
    let from = c.loop.done in
    let room = length c.loop.buf - from in
    let within = c.loop.invariant.0 in
    let part = put_there from room c.in-Ok-1-to-max.n c.loop.buf c.read.new.buf within c.in-Ok-1-to-max.ensures.bound.0 in
    let joined = split_at from (from + c.in-Ok-1-to-max.n) c.loop.buf (put_mid from room c.loop.buf c.read.new.buf) (omega arith)
    (take-put_mid_below _ _ _ _ _ (le_refl _) within) in (
      search rules,
      subst (Consumes _ _) (ap (λ l. take from c.loop.buf ++ l) (sym part) ∙ joined)
          (Consumes-trans _ _ _ _ _ c.loop.invariant.1 c.in-Ok-1-to-max.ensures.bytes.0),
    )
