-- What a chunk does to the lines, and how much of a line need be kept. Assumes nothing.
use Rattle.std.specs.Prelude.{◌≡◌, refl, Bool, true, false, cond, ℕ, zero, suc, ◌+◌, ◌≤◌, ◌<◌, eqb, length, take, drop, if◌then◌else◌}
use Rattle.std.proofs.Common.{sym, ◌∙◌, arith}
use Rattle.std.proofs.Math.Path.{ap}
use mathlib.Core.List.{List, [], ◌∷◌, ◌++◌, map, append_assoc, append-nil}
use Rattle.lines.specs.Lines.{last_line, lines_from, lines_of, up_to, has_end, used_of}

pub cases : {P : Type 0} (t : Bool) → (t ≡ true → P) → (t ≡ false → P) → P
cases true f g = f refl
cases false f g = g refl

pub never : {P : Type 0} → true ≡ false → P
never e = let z : ◌≡◌ {A = ℕ} 0 1 = ap (λ (t : Bool). cond t 0 1) e in absurd (omega arith)

-- ---- the first line end of a chunk

pub front_is : (chunk : List ℕ) → take (length (up_to chunk)) chunk ≡ up_to chunk
unfolding up_to
front_is [] = refl
front_is (b ∷ bs) = cases (eqb b 10) (λ t. rw t) (λ t. rw t (ap (λ (l : List ℕ). b ∷ l) (front_is bs)))

-- with an end
pub ended_used : (chunk : List ℕ) → has_end chunk ≡ true → used_of chunk ≡ length (up_to chunk) + 1
unfolding has_end used_of up_to
ended_used [] h = never (sym h)
ended_used (b ∷ bs) h = cases (eqb b 10) (λ t. rw t) (λ t. rw t (omega (arith, ended_used bs (rw t at h))))

pub ended_inside : (chunk : List ℕ) → has_end chunk ≡ true → length (up_to chunk) < length chunk
unfolding has_end up_to
ended_inside [] h = never (sym h)
ended_inside (b ∷ bs) h = cases (eqb b 10) (λ t. rw t (omega arith)) (λ t. rw t (omega (arith, ended_inside bs (rw t at h))))

pub ended_fits : (chunk : List ℕ) → has_end chunk ≡ true → used_of chunk ≤ length chunk
ended_fits chunk h = omega (arith, ended_used chunk h, ended_inside chunk h)

-- without
pub going_all : (chunk : List ℕ) → has_end chunk ≡ false → up_to chunk ≡ chunk
unfolding has_end up_to
going_all [] h = refl
going_all (b ∷ bs) h = cases (eqb b 10) (λ t. never (rw t at h)) (λ t. rw t (ap (λ (l : List ℕ). b ∷ l) (going_all bs (rw t at h))))

pub going_used : (chunk : List ℕ) → has_end chunk ≡ false → used_of chunk ≡ length chunk
unfolding has_end used_of
going_used [] h = refl
going_used (b ∷ bs) h = cases (eqb b 10) (λ t. never (rw t at h)) (λ t. rw t (ap suc (going_used bs (rw t at h))))

-- whether there is one shows in the length
pub inside_ended : (chunk : List ℕ) → length (up_to chunk) < length chunk → has_end chunk ≡ true
inside_ended chunk l = cases (has_end chunk) (λ t. t) (λ t. absurd (omega (arith, ap length (going_all chunk t))))

pub all_going : (chunk : List ℕ) → length chunk ≤ length (up_to chunk) → has_end chunk ≡ false
all_going chunk l = cases (has_end chunk) (λ t. absurd (omega (arith, ended_inside chunk t))) (λ t. t)

-- ---- the lines of a chunk and what comes after it

pub lines_ended : (p chunk r : List ℕ) → has_end chunk ≡ true → lines_from p (chunk ++ r) ≡ (p ++ up_to chunk) ∷ lines_from [] (drop (used_of chunk) chunk ++ r)
unfolding has_end lines_from up_to used_of
lines_ended p [] r h = never (sym h)
lines_ended p (b ∷ bs) r h = cases (eqb b 10) (λ t. rw (t, append-nil)) (λ t. rw t (lines_ended (p ++ (b ∷ [])) bs r (rw t at h) ∙ rw append_assoc))

pub lines_going : (p chunk r : List ℕ) → has_end chunk ≡ false → lines_from p (chunk ++ r) ≡ lines_from (p ++ up_to chunk) r
unfolding has_end lines_from up_to
lines_going p [] r h = rw append-nil
lines_going p (b ∷ bs) r h = cases (eqb b 10) (λ t. never (rw t at h)) (λ t. rw t (lines_going (p ++ (b ∷ [])) bs r (rw t at h) ∙ rw append_assoc))

-- a last line without its 0a is a line
pub lines_last : (b : ℕ) (bs : List ℕ) → has_end (b ∷ bs) ≡ false → lines_of (b ∷ bs) ≡ (b ∷ bs) ∷ []
unfolding lines_from last_line
lines_last b bs h = sym (ap (lines_from []) (append-nil (b ∷ bs))) ∙ lines_going [] (b ∷ bs) [] h ∙ ap last_line (going_all (b ∷ bs) h)

-- how many line ends bytes have
unfoldable pub end_count : List ℕ → ℕ
end_count [] = 0
end_count (b ∷ bs) = if eqb b 10 then suc (end_count bs) else end_count bs

-- bytes whose last is 0a have as many lines as line ends
pub lines_count : (p bs : List ℕ) → length (lines_from p (bs ++ (10 ∷ []))) ≡ end_count (bs ++ (10 ∷ []))
unfolding lines_from last_line end_count
lines_count p [] = refl
lines_count p (b ∷ bs) = cases (eqb b 10) (λ t. rw t (ap suc (lines_count [] bs))) (λ t. rw t (lines_count (p ++ (b ∷ [])) bs))

-- ---- `most` bytes of a line are enough

pub kept_again : (most : ℕ) (p x : List ℕ) → take most (take most p ++ x) ≡ take most (p ++ x)
kept_again zero p x = refl
kept_again (suc most) [] x = refl
kept_again (suc most) (b ∷ p) x = ap (λ (l : List ℕ). b ∷ l) (kept_again most p x)

map_take : {A B : Type 0} (f : A → B) (n : ℕ) (l : List A) → map f (take n l) ≡ take n (map f l)
map_take f zero l = refl
map_take f (suc n) [] = refl
map_take f (suc n) (x ∷ l) = ap (λ k. f x ∷ k) (map_take f n l)

-- a line with a byte is still one
last_clip : {A : Type 0} (most : ℕ) (f : List ℕ → A) → ((l : List ℕ) → f (take most l) ≡ f l) → 1 ≤ most → (p : List ℕ) → map f (last_line (take most p)) ≡ map f (last_line p)
unfolding last_line
last_clip zero f short h p = absurd (omega arith)
last_clip (suc most) f short h [] = refl
last_clip (suc most) f short h (b ∷ p) = ap (λ x. x ∷ []) (short (b ∷ p))

-- for whatever looks at no more than the first `most` bytes of a line
module _ {A : Type 0} (most : ℕ) (f : List ℕ → A) (short : (l : List ℕ) → f (take most l) ≡ f l) (h : 1 ≤ most) where
  pub clip : (p s : List ℕ) → map f (lines_from (take most p) s) ≡ map f (lines_from p s)
  unfolding lines_from
  clip p [] = last_clip most f short h p
  clip p (b ∷ s) =
      cases (eqb b 10) (λ t. rw t (ap (λ x. x ∷ map f (lines_from [] s)) (short p)))
      (λ t. rw t (sym (clip (take most p ++ (b ∷ [])) s) ∙ ap (λ (l : List ℕ). map f (lines_from l s)) (kept_again most p (b ∷ [])) ∙ clip (p ++ (b ∷ [])) s))

  pub clip_first : (n : ℕ) (p s : List ℕ) → map f (take n (lines_from (take most p) s)) ≡ map f (take n (lines_from p s))
  clip_first n p s = map_take f n (lines_from (take most p) s) ∙ ap (take n) (clip p s) ∙ sym (map_take f n (lines_from p s))
