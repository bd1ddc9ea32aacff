-- The public chain: what is checked, the end tree and the zeros behind it, and the whole promise. Assumes nothing.
use mathlib.Core.Path.{◌≡◌, refl, sym, ap, ap₂, subst, ◌∙◌}
use mathlib.Core.Bool.{false}
use mathlib.Core.List.{List, ◌++◌}
use Prim.Native.Nat.{ℕ, ◌+◌, ◌*◌, ◌-◌, ◌/◌, ◌≤◌}
use native.Mathlib.Omega.{arith}
use Rattle.std.specs.Prelude.{ltb, if◌then◌else◌}
use Rattle.std.proofs.Common.{ltb-false}
use lib.ListN.{length, take, replicate, length-append, length-replicate}
use lib.Seq.{take_at}
use borrow.Rule.Slice.PartMut.{put_mid}
use Rattle.expr.specs.declared.refusal.Reason.{Reason}
use Rattle.expr.specs.Refusals.{refusal}
use Rattle.expr.specs.Outcome.{Outcome, refused, accepted}
use Rattle.expr.specs.OutcomeLaws.{same_answer, else_came, then_accepted, then_refused}
use Rattle.expr.specs.Expr.{Expr, encode, nodes}
use Rattle.expr.specs.ExprLaws.{length_encode}
use Rattle.expr.specs.Parse.{Accepts}
use Rattle.expr.specs.ParseLaws.{parse_sound, parse_encode}
use Rattle.expr.specs.Parts.{tail}
use Rattle.expr.specs.TailLaws.{length_tail}
use Rattle.expr.specs.Front.{tree_at}
use Rattle.expr.specs.Room.{room_for}
use Rattle.expr.specs.LentLaws.{put_tail}
use Rattle.value.specs.Value.{one_width_of}
use Rattle.value.specs.ValueLaws.{OneWidth, one_width_sound, one_width_complete}
use Rattle.rewriting.specs.EndLaws.{Ends, no_site}
use Rattle.rewriting.specs.NodesLaws.{ends_nodes}
use Rattle.rewriting.specs.ChainLaws.{ends_listed, ends_count, no_first_site, ends_lent, ends_value, ends_uniform, ends_valid, ends_depth, ends_variables}
use Rattle.atom_simplifier.specs.declared.pairs.Pairs.{Pairs}
use Rattle.atom_simplifier.specs.Calls.{with_work, chain_admitted}
use Rattle.atom_simplifier.specs.Promises.{counted, PairsOf, IsBuilt}
use Rattle.atom_simplifier.specs.Chained.{Chained, ChainIs, ChainGives}
use Rattle.atom_simplifier.proofs.CountingLaws.{counted_few}

-- ---- the end of a list is all that document 01 asks of it

-- the work after the end tree's words were built in it and the rest of it was cleared
module _ (u : Expr) (rest built after cleared : List ℕ) (len : ℕ) (l : len ≡ length (encode u)) (b : built ≡ encode u ++ rest)
    (c : cleared ≡ replicate (length (tail len built)) 0) (a : after ≡ put_mid len (length built - len) built cleared) where
  laid_out : after ≡ encode u ++ replicate (length (tail len built)) 0
  laid_out = a ∙ put_tail len built cleared ∙ ap₂ (λ (x y : List ℕ). x ++ y) (ap (take len) b ∙ take_at (encode u) rest len (sym l)) c

  built_length : length built ≡ length (encode u) + length rest
  built_length = ap length b ∙ length-append (encode u) rest

  zeros_length : length (tail len built) ≡ length rest
  zeros_length = omega (arith, length_tail len built, built_length)

  after_length : length after ≡ length built
  after_length =
      ap length laid_out ∙ length-append (encode u) (replicate (length (tail len built)) 0)
      ∙ omega (arith, length-replicate {0} {A = ℕ} (length (tail len built)) 0, zeros_length, built_length)

  only_zeros : after ≡ encode u ++ replicate (length after - length (encode u)) 0
  only_zeros =
      laid_out ∙ ap (λ (n : ℕ). encode u ++ replicate n 0) (let e : length (tail len built) ≡ length after - length (encode u) = omega (arith, after_length, built_length, zeros_length) in e)

chained : (w : ℕ) (widths : List ℕ) (t u : Expr) (k : ℕ) (ws after : List ℕ) (n : ℕ) → OneWidth ws w widths t → Accepts ws t → Ends w t u k
    → n ≡ nodes u → after ≡ encode u ++ replicate (length after - length (encode u)) 0 → Chained w widths t after n k
chained w widths t u k ws after n o v s e f =
    let i = ends_listed w s in
    record {
      trees = i.trees;
      listed = i.listed;
      end = u;
      is_last = i.is_last;
      nodes_is = e;
      count_is = i.count_is;
      words = f;
      most = ends_count w s;
      no_site = no_first_site w u (no_site w s);
      lent = λ σ. ends_lent w σ s;
      same_value = λ σ h. ends_value w σ s;
      one_width = one_width_complete (encode u) w widths u (record {
        parsed = parse_encode u (ends_valid w s v.valid);
        is_uniform = ends_uniform w widths w s o.is_uniform;
        at_least = o.at_least;
        at_most = o.at_most;
      });
      no_more_nodes = ends_nodes w s;
      no_deeper = ends_depth w s;
      no_new_variable = ends_variables w s;
    }

-- ---- the call

module _ (ws : List ℕ) (w : ℕ) (widths : List ℕ) where
  pub chain_turned_down : (r : Reason) → refused r ≡ one_width_of ws w widths → (work : List ℕ) → ChainGives (chain_admitted ws w widths (length work)) w widths work work (refused r)
  unfolding ChainIs chain_admitted
  chain_turned_down r e work = record {
    is =
        subst (λ (a : Outcome Expr). ChainIs a w widths work work (refused r))
        (sym (then_refused (sym e) (with_work (length work)))) (refl, refl);
  }

  module _ (t : Expr) (e : accepted t ≡ one_width_of ws w widths) (v : Pairs) (p : PairsOf v t) where
    of_one_width : OneWidth ws w widths t
    of_one_width = one_width_sound ws w widths t (sym e)

    accepts : Accepts ws t
    accepts = parse_sound ws t of_one_width.parsed

    -- the room that is asked for
    admitted : (room : ℕ) → chain_admitted ws w widths room ≡ room_for (λ u. 2 * (nodes u + v.pairs)) room t
    unfolding chain_admitted room_for counted
    admitted room =
        then_accepted (sym e) (with_work room)
        ∙ ap (λ (y : Pairs). if ltb room (2 * (nodes t + y.pairs)) then refused (refusal 9) else accepted t) (sym (counted_few v t p accepts.valid.count))

    pub work_too_small : (r : Reason) (work : List ℕ) → refused r ≡ room_for (λ u. 2 * (nodes u + v.pairs)) (length work) t → ChainGives (chain_admitted ws w widths (length work)) w widths work work (refused r)
    unfolding ChainIs
    work_too_small r work f = record { is = subst (λ (a : Outcome Expr). ChainIs a w widths work work (refused r)) (f ∙ sym (admitted (length work))) (refl, refl) }

    module _ (xs work : List ℕ) (f : accepted (tree_at xs) ≡ room_for (λ u. 2 * (nodes u + v.pairs)) (length work) t) (vs : List ℕ) (g : vs ≡ xs) where
      roomy : (ltb (length work) (2 * (nodes t + v.pairs)) ≡ false) × (accepted t ≡ accepted (tree_at xs))
      unfolding room_for
      roomy = else_came (accepted t) (refusal 9) (ltb (length work) (2 * (nodes t + v.pairs))) (sym f)

      tree_is : tree_at vs ≡ t
      tree_is = ap tree_at g ∙ sym (same_answer roomy.1)

      pub chain_room : length (encode (tree_at vs)) ≤ length work
      chain_room =
          let h = ltb-false (length work) (2 * (nodes t + v.pairs)) roomy.0 in
          omega (arith, ap nodes tree_is, length_encode (tree_at vs))

      -- the end tree in the work
      module _ (b : ℕ) (z : b ≡ w) (built : List ℕ) (read len steps : ℕ) (i : IsBuilt b vs work built read len steps) where
        ends : Ends w t i.comes.tree steps
        ends = subst (λ (s : Expr). Ends w s i.comes.tree steps) tree_is (subst (λ (n : ℕ). Ends n (tree_at vs) i.comes.tree steps) z i.comes.ends)

        -- `from` is where the clearing began, `rewrites` the number that is answered
        pub chain_answered : (from : ℕ) → from ≡ len → (rewrites : ℕ) → rewrites ≡ steps → (cleared : List ℕ) → cleared ≡ replicate (length (tail from built)) 0
            → ChainGives (chain_admitted ws w widths (length work)) w widths work (put_mid from (length built - from) built cleared) (accepted (len / 2, rewrites))
        unfolding ChainIs
        chain_answered from h rewrites k cleared c =
            let u = i.comes.tree in
            let after = put_mid from (length built - from) built cleared in
            let half : len / 2 ≡ nodes u = omega (arith, i.comes.len_is, length_encode u) in
            let end : from ≡ length (encode u) = h ∙ i.comes.len_is in
            record {
              is =
                  subst (λ (a : Outcome Expr). ChainIs a w widths work after (accepted (len / 2, rewrites)))
                  (roomy.1 ∙ f ∙ sym (admitted (length work))) (
                    len / 2,
                    rewrites,
                    refl,
                    after_length u i.comes.rest built after cleared from end i.comes.words c refl ∙ i.comes.long,
                    chained w widths t u rewrites ws after (len / 2) of_one_width accepts (subst (λ (n : ℕ). Ends w t u n) (sym k) ends) half
                        (only_zeros u i.comes.rest built after cleared from end i.comes.words c refl),
                  );
            }

pub end_inside : (w : ℕ) (ws work built : List ℕ) (read len steps : ℕ) → IsBuilt w ws work built read len steps → len ≤ length built
end_inside w ws work built read len steps i = omega (arith, i.comes.len_is, ap length i.comes.words, length-append (encode i.comes.tree) i.comes.rest)

pub ruleset chaining = (chain_turned_down, chain_room, end_inside)
