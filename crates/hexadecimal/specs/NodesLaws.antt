-- The laws of nodes as digits. Assumes nothing.
use Rattle.std.specs.Prelude.{◌≡◌, refl, true, ◌&&◌, List, [], ◌∷◌, ◌++◌, ℕ, zero, suc, ◌+◌, ◌*◌, ◌^◌, ◌≤◌, ◌<◌, length, take, drop, get_or}
use Rattle.std.proofs.Common.{sym, ap, ap₂, ◌∙◌, append_assoc, arith, length-append, length-drop, take_at, drop_at, drop-drop, take-add, length-take-le}
use Rattle.hexadecimal.specs.Hex.{digits, all_digits, number_of}
use Rattle.hexadecimal.specs.Nodes.{nodes_text, words_of}
use Rattle.hexadecimal.specs.HexLaws.{all_append, all_take, all_drop, length_digits, all_digits_lem, number_digits, digits_number}

-- ---- how many there are

pub length_nodes : (n : ℕ) (ws : List ℕ) → length (nodes_text n ws) ≡ 18 * n
unfolding nodes_text
length_nodes zero ws = refl
length_nodes (suc n) ws = simp (length-append, length_digits, length_nodes n (drop 2 ws)) (omega arith)

pub length_words : (n : ℕ) (bs : List ℕ) → length (words_of n bs) ≡ 2 * n
unfolding words_of
length_words zero bs = refl
length_words (suc n) bs = omega (arith, length_words n (drop 18 bs))

-- ---- one node more at the end

pub nodes_last : (n : ℕ) (ws : List ℕ) → nodes_text (suc n) ws ≡ nodes_text n ws ++ nodes_text 1 (drop (2 * n) ws)
unfolding nodes_text
nodes_last zero ws = refl
nodes_last (suc n) ws =
    let e : drop (2 * n) (drop 2 ws) ≡ drop (2 * suc n) ws = drop-drop (2 * n) 2 ws ∙ ap (λ (i : ℕ). drop i ws) (let s : 2 + 2 * n ≡ 2 * suc n = omega arith in s) in
    rw (nodes_last n (drop 2 ws), e, append_assoc, append_assoc)

pub words_last : (n : ℕ) (bs : List ℕ) → words_of (suc n) bs ≡ words_of n bs ++ words_of 1 (drop (18 * n) bs)
unfolding words_of
words_last zero bs = refl
words_last (suc n) bs =
    let e : drop (18 * n) (drop 18 bs) ≡ drop (18 * suc n) bs = drop-drop (18 * n) 18 bs ∙ ap (λ (i : ℕ). drop i bs) (let s : 18 + 18 * n ≡ 18 * suc n = omega arith in s) in
    ap (λ (l : List ℕ). number_of (take 2 bs) ∷ number_of (take 16 (drop 2 bs)) ∷ l) (words_last n (drop 18 bs) ∙ ap (λ (l : List ℕ). words_of n (drop 18 bs) ++ words_of 1 l) e)

-- ---- written and read back

-- the words of so many nodes, each kind of two digits and each operand of sixteen
pub data NodeWords : ℕ → List ℕ → Type 0 where
  none : NodeWords 0 []
  next : {n k o : ℕ} {ws : List ℕ} → k < 256 → o < 2 ^ 64 → NodeWords n ws → NodeWords (suc n) (k ∷ o ∷ ws)

pub all_nodes : (n : ℕ) (ws : List ℕ) → all_digits (nodes_text n ws) ≡ true
unfolding nodes_text all_digits
all_nodes zero ws = refl
all_nodes (suc n) ws =
    let k : List ℕ = digits 2 (get_or ws 0 0) in
    let o : List ℕ = digits 16 (get_or ws 1 0) in
    all_append k (o ++ nodes_text n (drop 2 ws))
    ∙ ap₂ ◌&&◌ (all_digits_lem 2 (get_or ws 0 0)) (all_append o (nodes_text n (drop 2 ws)) ∙ ap₂ ◌&&◌ (all_digits_lem 16 (get_or ws 1 0)) (all_nodes n (drop 2 ws)))

pub words_nodes : {n : ℕ} {ws : List ℕ} → NodeWords n ws → (rest : List ℕ) → words_of n (nodes_text n ws ++ rest) ≡ ws
unfolding words_of nodes_text
words_nodes none rest = refl
words_nodes (next {n} {k} {o} {ws} hk ho f) rest =
    let A : List ℕ = digits 2 k in
    let B : List ℕ = digits 16 o in
    let R : List ℕ = nodes_text n ws ++ rest in
    let s : (A ++ (B ++ nodes_text n ws)) ++ rest ≡ A ++ (B ++ R) = append_assoc A (B ++ nodes_text n ws) rest ∙ ap (λ (l : List ℕ). A ++ l) (append_assoc B (nodes_text n ws) rest) in
    let d : drop 2 (A ++ (B ++ R)) ≡ B ++ R = drop_at A (B ++ R) 2 (length_digits 2 k) in
    let e : drop 18 (A ++ (B ++ R)) ≡ R = sym (drop-drop 16 2 (A ++ (B ++ R))) ∙ ap (drop 16) d ∙ drop_at B R 16 (length_digits 16 o) in
    rw (s, take_at A (B ++ R) 2 (length_digits 2 k), d, e, take_at B R 16 (length_digits 16 o), number_digits 2 k hk, number_digits 16 o ho, words_nodes f rest)

-- ---- read and written back

pub nodes_words : (n : ℕ) (bs : List ℕ) → 18 * n ≤ length bs → all_digits bs ≡ true → nodes_text n (words_of n bs) ≡ take (18 * n) bs
unfolding words_of nodes_text
nodes_words zero bs h e = refl
nodes_words (suc n) bs h e =
    let k = digits_number (take 2 bs) 2 (length-take-le 2 bs (omega arith)) (all_take bs 2 e) in
    let o = digits_number (take 16 (drop 2 bs)) 16 (length-take-le 16 (drop 2 bs) (omega (arith, length-drop 2 bs))) (all_take (drop 2 bs) 16 (all_drop bs 2 e)) in
    let r = nodes_words n (drop 18 bs) (omega (arith, length-drop 18 bs)) (all_drop bs 18 e) in
    let s : 18 * suc n ≡ 2 + (16 + 18 * n) = omega arith in
    rw (k, o, r)
    (sym (ap (λ (i : ℕ). take i bs) s ∙ take-add 2 (16 + 18 * n) bs
    ∙ ap (λ (l : List ℕ). take 2 bs ++ l) (take-add 16 (18 * n) (drop 2 bs) ∙ ap (λ (l : List ℕ). take 16 (drop 2 bs) ++ take (18 * n) l) (drop-drop 16 2 bs))))
