-- The chain of a line, with short work first. Assumes nothing.
use mathlib.Core.Path.{◌≡◌, refl, sym, ap, ap₂, subst, ◌∙◌}
use mathlib.Core.Bool.{Bool, true, false}
use mathlib.Core.List.{List, [], ◌++◌, append_assoc}
use Prim.Native.Nat.{ℕ, ◌+◌, ◌-◌, ◌*◌, ◌≤◌}
use native.Mathlib.Omega.{arith}
use lib.Dec.{ltb}
use lib.ListN.{length, take, drop, replicate, length-append, length-take, length-drop}
use lib.Seq.{take_at, length-take-le}
use borrow.Rule.Slice.PartMut.{put_mid}
use Rattle.std.specs.Prelude.{if◌then◌else◌, Result, Ok, Err}
use Rattle.expr.specs.declared.refusal.Reason.{Reason}
use Rattle.expr.specs.declared.refusal.Refusal.{Refusal}
use Rattle.expr.specs.Refusals.{refusal, reason_of}
use Rattle.expr.specs.Outcome.{Outcome, refused, accepted, mapped, ◌and_then◌}
use Rattle.expr.specs.OutcomeLaws.{no_answer}
use Rattle.expr.specs.Expr.{Expr, encode, nodes}
use Rattle.expr.specs.ExprLaws.{length_encode}
use Rattle.expr.specs.ParseLaws.{parse_sound}
use Rattle.expr.specs.Parse.{Accepts}
use Rattle.expr.specs.Front.{Exactly, tree_at}
use Rattle.expr.specs.PartLaws.{exact_tree, exact_whole}
use Rattle.expr.specs.Room.{room_for}
use Rattle.width.specs.CheckedLaws.{enough, roomy}
use Rattle.value.specs.Value.{one_width_of}
use Rattle.value.specs.ValueLaws.{OneWidth, one_width_sound}
use Rattle.rewriting.specs.Measures.{D}
use Rattle.rewriting.specs.Chain.{last_of, trees_of}
use Rattle.rewriting.specs.ChainLaws.{listed_is}
use Rattle.atom_simplifier.specs.Calls.{with_work, chain_admitted}
use Rattle.atom_simplifier.specs.Chained.{Chained, ChainIs, ChainGives}
use Rattle.atom_simplifier.specs.declared.chain.ChainEnd.{ChainEnd}
use Rattle.expr.specs.Answers.{outcome}
use Rattle.atom_simplifier.specs.Answers.{end_numbers}
use Rattle.report_lines.specs.Report.{Done, done, chained}
use Rattle.report_lines.specs.BoundsLaws.{admitted_tree}
use Rattle.report_lines.specs.Promises.{done_by, Reaches, Ran}

-- ---- the room

-- with more room a tree that was accepted is accepted, and a refusal other than 9 stays
more_room : (ws : List ℕ) (w : ℕ) (widths : List ℕ) (a b : ℕ) (t : Expr) → a ≤ b → chain_admitted ws w widths a ≡ accepted t → chain_admitted ws w widths b ≡ accepted t
unfolding chain_admitted
more_room ws w widths a b t h e =
    let k = roomy (λ u. 2 * (nodes u + D u)) a (one_width_of ws w widths) e in
    let l : 2 * (nodes t + D t) ≤ b = omega (arith, k.1) in
    enough _ b k.0 l

other_refusal : (ws : List ℕ) (w : ℕ) (widths : List ℕ) (a b : ℕ) (r : Reason) → (r.number ≡ 9 → ⊥) → chain_admitted ws w widths a ≡ refused r → chain_admitted ws w widths b ≡ refused r
unfolding chain_admitted room_for
other_refusal ws w widths a b r n e = go (one_width_of ws w widths) e
  where
    not_nine : (u : Expr) (c : Bool) → (if c then refused (refusal 9) else accepted u) ≡ refused r → ⊥
    not_nine u true g = n (let e : r.number ≡ 9 = cc in e)
    not_nine u false g = no_answer (sym g)

    go : (o : Outcome Expr) → (o and_then with_work a) ≡ refused r → (o and_then with_work b) ≡ refused r
    go (refused q) g = g
    go (accepted u) g = absurd (not_nine u (ltb a (2 * (nodes u + D u))) g)

-- ---- the end tree in the work

module _ (ws : List ℕ) (w : ℕ) (t : Expr) (after rest work : List ℕ) (n k : ℕ) (o : one_width_of ws w [] ≡ accepted t) (c : Chained w [] t after n k) (e : work ≡ after ++ rest) where
  sound : OneWidth ws w [] t
  sound = one_width_sound ws w [] t o

  accepts : Accepts ws t
  accepts = parse_sound ws t sound.parsed

  exactly : Exactly ws t
  exactly = record { words = accepts.words; operands = accepts.valid.operands }

  end_words : take (2 * n) work ≡ encode c.end
  end_words =
      ap (take (2 * n)) (e ∙ ap (λ (l : List ℕ). l ++ rest) c.words ∙ append_assoc (encode c.end) _ rest)
      ∙ take_at (encode c.end) _ (2 * n) (omega (arith, length_encode c.end, c.nodes_is))

  end_exactly : Exactly (take (2 * n) work) c.end
  end_exactly =
      let a = parse_sound (encode c.end) c.end (one_width_sound (encode c.end) w [] c.end c.one_width).parsed in
      record { words = end_words; operands = a.valid.operands }

  is_done : done w t ≡ done_by w ws (take (2 * n) work) k
  unfolding done_by
  is_done =
      let i : c.trees ≡ trees_of w t = listed_is w c.listed in
      let a : t ≡ tree_at ws = sym (exact_tree ws t exactly) in
      let b : last_of t (trees_of w t) ≡ tree_at (take (2 * n) work) = ap (last_of t) (sym i) ∙ sym c.is_last ∙ sym (exact_tree (take (2 * n) work) c.end end_exactly) in
      let m : length (trees_of w t) - 1 ≡ k = omega (arith, ap length i, c.count_is) in
      let f : (x y : Expr) (j : ℕ) → Done = λ x y j. record { width = w; tree = x; end = y; rewrites = j } in
      ap (λ (x : Expr). f x (last_of t (trees_of w t)) (length (trees_of w t) - 1)) a
      ∙ ap₂ (λ (y : Expr) (j : ℕ). f (tree_at ws) y j) b m

  ran : Ran (accepted (done w t)) w ws work (accepted (n, k))
  unfolding Reaches
  ran = record {
    reaches = (
      n,
      k,
      refl,
      is_done,
      exact_whole ws t exactly,
      exact_whole (take (2 * n) work) c.end end_exactly,
      omega (arith, ap length e, length-append after rest, ap length c.words, length-append (encode c.end) (replicate (length after - length (encode c.end)) 0), length_encode c.end, c.nodes_is),
      omega (arith, c.nodes_is, c.no_more_nodes, accepts.valid.count),
      sound.at_least,
      sound.at_most,
    );
  }

-- ---- the calls

-- a tree that the chain takes is of one width
module _ (ws : List ℕ) (w e : ℕ) (work after : List ℕ) (x : Result ChainEnd Refusal) (g : ChainGives (chain_admitted ws w [] (length (take e work))) w [] (take e work) after (mapped end_numbers (outcome x))) where
  abbrev back : List ℕ
  back = put_mid 0 e work after

  abbrev room : ℕ
  room = length (take e work)

  room_most : e ≤ 4096 → room ≤ 4096
  room_most h = omega (arith, length-take e work)

  ended : (a : Outcome Expr) → chain_admitted ws w [] room ≡ a → ChainIs a w [] (take e work) after (mapped end_numbers (outcome x)) → e ≤ 4096 → (n k : ℕ) → x ≡ Ok (record { nodes = n; rewrites = k })
      → Ran (chained (w, ws)) w ws back (accepted (n, k))
  unfolding ChainIs
  ended (refused r) f i h n k p = absurd (let z : ◌≡◌ {A = ℕ} 0 1 = cc in omega arith)
  ended (accepted t) f (m, j, q, l, c) h n k p =
      let both : ◌≡◌ {A = ℕ × ℕ} (m, j) (n, k) = cc in
      let mn : m ≡ n = ap (λ (v : ℕ × ℕ). v.0) both in
      let jk : j ≡ k = ap (λ (v : ℕ × ℕ). v.1) both in
      subst (λ (o : Outcome Done). Ran o w ws back (accepted (n, k))) (ap (mapped (done w)) (sym (more_room ws w [] room 4096 t (room_most h) f)))
      (ran ws w t after (drop e work) back n k (admitted_tree ws w [] room t f) (subst (λ (u : ℕ). Chained w [] t after u k) mn (subst (Chained w [] t after m) jk c)) refl)

  chain_ended : e ≤ 4096 → (n k : ℕ) → x ≡ Ok (record { nodes = n; rewrites = k }) → Ran (chained (w, ws)) w ws back (accepted (n, k))
  chain_ended h n k p = ended (chain_admitted ws w [] room) refl g.is h n k p

  module _ (r : Refusal) (p : x ≡ Err r) where
    refused_is : (a : Outcome Expr) → ChainIs a w [] (take e work) after (mapped end_numbers (outcome x)) → a ≡ refused (reason_of r)
    unfolding ChainIs
    refused_is (refused q) i = let z : q ≡ reason_of r = cc in ap (λ (y : Reason). refused y) z
    refused_is (accepted t) (m, j, q, l, c) = absurd (let z : ◌≡◌ {A = ℕ} 0 1 = cc in omega arith)

    down : chain_admitted ws w [] 4096 ≡ refused (reason_of r) → Ran (chained (w, ws)) w ws back (refused (reason_of r))
    unfolding Reaches
    down f = subst (λ (o : Outcome Done). Ran o w ws back (refused (reason_of r))) (ap (mapped (done w)) (sym f)) (record { reaches = refl })

    pub chain_refused : (q : Reason) → q ≡ reason_of r → (q.number ≡ 9 → ⊥) → Ran (chained (w, ws)) w ws back (refused (reason_of r))
    chain_refused q y n = down (other_refusal ws w [] room 4096 (reason_of r) (λ z. n (ap (λ (v : Reason). v.number) y ∙ z)) (refused_is (chain_admitted ws w [] room) g.is))

    all_refused : room ≡ 4096 → Ran (chained (w, ws)) w ws back (refused (reason_of r))
    all_refused f = down (subst (λ (a : ℕ). chain_admitted ws w [] a ≡ refused (reason_of r)) f (refused_is (chain_admitted ws w [] room) g.is))

-- with short work
module _ (ws : List ℕ) (w : ℕ) (work after : List ℕ) (x : Result ChainEnd Refusal) where
  pub chain_short : ChainGives (chain_admitted ws w [] (length (take (4 * length ws) work))) w [] (take (4 * length ws) work) after (mapped end_numbers (outcome x)) → length ws ≤ 1024
      → (n k : ℕ) → x ≡ Ok (record { nodes = n; rewrites = k }) → Ran (chained (w, ws)) w ws (put_mid 0 (4 * length ws) work after) (accepted (n, k))
  chain_short g h = chain_ended ws w (4 * length ws) work after x g (omega arith)

-- with all of the work
module _ (ws : List ℕ) (w : ℕ) (work after : List ℕ) where
  pub chain_whole : (x : Result ChainEnd Refusal) → ChainGives (chain_admitted ws w [] (length (take 4096 work))) w [] (take 4096 work) after (mapped end_numbers (outcome x)) → 4096 ≤ length work
      → Ran (chained (w, ws)) w ws (put_mid 0 4096 work after) (mapped end_numbers (outcome x))
  chain_whole (Ok e) g h = chain_ended ws w 4096 work after (Ok e) g (omega arith) e.nodes e.rewrites refl
  chain_whole (Err r) g h = all_refused ws w 4096 work after (Err r) g r refl (omega (arith, length-take 4096 work, length-drop 0 work))

  -- the work is as long as it was where the chain is run in a part of it
  pub still_long : (k : ℕ) → length after ≡ length (take k work) → 4096 ≤ length work → 4096 ≤ length (after ++ drop k work)
  still_long k e h = omega (arith, length-append after (drop k work), length-take k work, length-drop k work)

  pub still_taken : (k : ℕ) → length after ≡ length (take k work) → 4096 ≤ length work → 4096 ≡ length (take 4096 (after ++ drop k work))
  still_taken k e h = sym (length-take-le 4096 (after ++ drop k work) (still_long k e h))

pub ruleset running = (chain_short, chain_refused, chain_whole, still_long, still_taken)
