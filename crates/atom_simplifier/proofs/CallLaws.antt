-- The two public calls: what is checked, answered and written. Assumes nothing.
use mathlib.Core.Path.{◌≡◌, sym, ap, ap₂, ◌∙◌}
use mathlib.Core.Bool.{Bool, true, false}
use mathlib.Core.List.{List}
use mathlib.Core.Option.{Option, none, some}
use Prim.Native.Nat.{ℕ, ◌+◌, ◌*◌, ◌/◌, ◌≤◌, ◌<◌}
use native.Mathlib.Omega.{arith}
use lib.Dec.{ltb}
use lib.ListN.{length}
use borrow.Author.Tests.{lt-ltb, le-ltb}
use Rattle.std.specs.Prelude.{Some, None, if◌then◌else◌}
use Rattle.std.specs.Prelude as answered
use Rattle.std.specs.declared.ops.ControlFlow.{ControlFlow}
use Rattle.std.specs.declared.ops.ControlFlow.TheVariants.{Continue, Break}
use Rattle.expr.specs.declared.refusal.Reason.{Reason}
use Rattle.expr.specs.Refusals.{refusal}
use Rattle.expr.specs.Outcome.{Outcome, refused, accepted, mapped, ◌and_then◌}
use Rattle.expr.specs.Expr.{Expr, encode, nodes, depth}
use Rattle.expr.specs.ExprLaws.{length_encode}
use Rattle.expr.specs.Parse.{parse}
use Rattle.expr.specs.Front.{tree_at}
use Rattle.width.specs.Checked.{checked, width_of_call}
use Rattle.width.specs.CheckedLaws.{width_refused, given_width, checked_parse, checked_tree, too_little, Admitted, admitted_sound}
use Rattle.expr.specs.Optional.{map}
use Rattle.rewriting.specs.AtomSimplifier as def
use Rattle.rewriting.specs.AtomSimplifier.{local_rewrite, first_site}
use Rattle.rewriting.specs.SiteLaws.{first_site_lem}
use Rattle.rewriting.specs.ShapeLaws.{local_nodes}
use Rattle.atom_simplifier.specs.declared.local.Decision.{Decision}
use Rattle.atom_simplifier.specs.declared.search.Site.{Site}
use Rattle.atom_simplifier.specs.Calls.{with_room, admitted, local_rewrite_at, first_site_at, written}
use Rattle.atom_simplifier.specs.Promises.{Makes, Decides, Writable, Writes, IsFound, Searched}
use Rattle.atom_simplifier.proofs.DecideLaws.{none_decided, some_decided}
use Rattle.atom_simplifier.proofs.SearchLaws.{none_is, found_is}

-- ---- `admit`

module _ (ws : List ℕ) (w room : ℕ) where
  abbrev asked : Outcome Expr → Outcome Expr
  asked o = o and_then with_room room

  pub width_no : (r : Reason) → refused r ≡ width_of_call w → refused r ≡ admitted ws w room
  unfolding admitted
  width_no r e = ap asked (width_refused w r e ws)

  module _ (b : ℕ) (e : accepted b ≡ width_of_call w) where
    pub words_no : (r : Reason) → refused r ≡ parse ws → refused r ≡ admitted ws w room
    unfolding admitted
    words_no r f = ap asked (f ∙ checked_parse w b e ws)

    pub room_asked : (t : Expr) → accepted t ≡ parse ws → with_room room t ≡ admitted ws w room
    unfolding admitted
    room_asked t f = ap asked (f ∙ checked_parse w b e ws)

  -- words for fewer nodes than one more than the tree's
  pub room_refused : (n : ℕ) → accepted n ≡ mapped nodes (checked w ws) → room < 2 * (n + 1) → refused (refusal 9) ≡ mapped nodes (admitted ws w room)
  unfolding admitted
  room_refused n e f =
      let m = checked_tree w ws n e in
      let l : room < 2 * (nodes m.tree + 1) = omega (arith, m.count) in
      sym (ap (mapped nodes) (too_little _ room m.is l))

pub ruleset admitting = (given_width, width_no, words_no)

-- ---- a tree that was admitted

module _ (ws : List ℕ) (w room : ℕ) (t : Expr) (e : accepted t ≡ admitted ws w room) where
  a : Admitted (λ u. 2 * (nodes u + 1)) ws w room t
  unfolding admitted
  a = admitted_sound _ ws w room t (sym e)

  -- the words of a replacement
  fits : (u : Expr) → nodes u ≤ nodes t + 1 → length (encode u) ≤ room
  fits u l = omega (arith, length_encode u, a.holds)

-- ---- `local_certifiable_atom_rewrite`

module _ (ws : List ℕ) (w room : ℕ) where
  module _ (t : Expr) (e : accepted t ≡ admitted ws w room) (b : ℕ) (f : b ≡ w) (node : List ℕ) (q : answered.Option Decision) (g : Decides node q (local_rewrite b t)) where
    local_is : local_rewrite_at ws w room ≡ accepted (local_rewrite b t)
    unfolding local_rewrite_at
    local_is = ap (mapped (local_rewrite w)) (sym e) ∙ ap (λ (n : ℕ). accepted (local_rewrite n t)) (sym f)

    module _ (h : q ≡ None) where
      stays : local_rewrite_at ws w room ≡ accepted none
      stays = local_is ∙ ap accepted (none_decided node q _ g h)

      pub none_answered : accepted none ≡ mapped (map nodes) (local_rewrite_at ws w room)
      none_answered = sym (ap (mapped (map nodes)) stays)

      pub none_written : (out : List ℕ) → out ≡ written encode (local_rewrite_at ws w room) out
      none_written out = sym (ap (λ (o : Outcome (Option Expr)). written encode o out) stays)

    module _ (d : Decision) (h : q ≡ Some d) where
      u : (v : Expr) × (local_rewrite b t ≡ some v) × Makes node d v
      u = some_decided node q _ g d h

      pub call_writable : Writable node d room
      call_writable = record { tree = u.0; makes = u.2; fits = fits ws w room t e u.0 (local_nodes b t u.0 u.1) }

      module _ (before after : List ℕ) (k : ℕ) (i : Writes node d before after k) where
        goes : local_rewrite_at ws w room ≡ accepted (some u.0)
        goes = local_is ∙ ap accepted u.1

        pub some_answered : accepted (some (k / 2)) ≡ mapped (map nodes) (local_rewrite_at ws w room)
        some_answered =
            let c : k / 2 ≡ nodes u.0 = omega (arith, i.count u.0 u.2, length_encode u.0) in
            ap (λ (j : ℕ). accepted (some j)) c ∙ sym (ap (mapped (map nodes)) goes)

        pub some_written : after ≡ written encode (local_rewrite_at ws w room) before
        some_written = (i.laid u.0 u.2).is ∙ sym (ap (λ (o : Outcome (Option Expr)). written encode o before) goes)

  module _ (r : Reason) (e : refused r ≡ admitted ws w room) where
    turned : local_rewrite_at ws w room ≡ refused r
    unfolding local_rewrite_at
    turned = ap (mapped (local_rewrite w)) (sym e)

    pub local_refused : refused r ≡ mapped (map nodes) (local_rewrite_at ws w room)
    local_refused = sym (ap (mapped (map nodes)) turned)

    pub refused_written : (out : List ℕ) → out ≡ written encode (local_rewrite_at ws w room) out
    refused_written out = sym (ap (λ (o : Outcome (Option Expr)). written encode o out) turned)

pub ruleset local_call = (none_answered, none_written, call_writable, some_answered, some_written, local_refused, refused_written)

-- ---- `find_first_certifiable_atom_rewrite`

-- the bytes of a site's path, and the nodes of its replacement
abbrev numbers : def.Site → ℕ × ℕ
numbers s = (length s.path, nodes s.replacement)

module _ (ws : List ℕ) (w bytes room : ℕ) where
  module _ (r : Reason) (e : refused r ≡ admitted ws w room) where
    site_turned : first_site_at ws w bytes room ≡ refused r
    unfolding first_site_at
    site_turned = ap (λ (o : Outcome Expr). o and_then (λ t. if ltb bytes 63 then refused (refusal 9) else accepted (first_site w t))) (sym e)

    pub site_refused : refused r ≡ mapped (map numbers) (first_site_at ws w bytes room)
    site_refused = sym (ap (mapped (map numbers)) site_turned)

    pub site_refused_written : (f : def.Site → List ℕ) (lent : List ℕ) → lent ≡ written f (first_site_at ws w bytes room) lent
    site_refused_written f lent = sym (ap (λ (o : Outcome (Option def.Site)). written f o lent) site_turned)

  -- the tree, by its own words
  module _ (own : List ℕ) (e : accepted (tree_at own) ≡ admitted ws w room) where
    abbrev t : Expr
    t = tree_at own

    site_at : (c : Bool) → ltb bytes 63 ≡ c → first_site_at ws w bytes room ≡ (if c then refused (refusal 9) else accepted (first_site w t))
    unfolding first_site_at
    site_at c f =
        ap (λ (o : Outcome Expr). o and_then (λ u. if ltb bytes 63 then refused (refusal 9) else accepted (first_site w u))) (sym e)
        ∙ ap (λ (g : Bool). if g then refused (refusal 9) else accepted (first_site w t)) f

    module _ (f : bytes < 63) where
      no_path : first_site_at ws w bytes room ≡ refused (refusal 9)
      no_path = site_at true (lt-ltb bytes 63 f)

      pub path_refused : refused (refusal 9) ≡ mapped (map numbers) (first_site_at ws w bytes room)
      path_refused = sym (ap (mapped (map numbers)) no_path)

      pub path_refused_written : (g : def.Site → List ℕ) (lent : List ℕ) → lent ≡ written g (first_site_at ws w bytes room) lent
      path_refused_written g lent = sym (ap (λ (o : Outcome (Option def.Site)). written g o lent) no_path)

    -- the walk is over them
    module _ (vs : List ℕ) (v : vs ≡ own) where
      walked : tree_at vs ≡ t
      walked = ap tree_at v

      pub call_depth : (path : List ℕ) → 63 ≤ length path → depth (tree_at vs) ≤ length path + 1
      call_depth path l = omega (arith, ap depth walked, (a ws w room t e).levels)

      module _ (b : ℕ) (i : b ≡ w) (l : 63 ≤ bytes) (path after : List ℕ) (k : ℕ) (y : ControlFlow Site ℕ) (q : Searched (first_site b (tree_at vs)) k path after y) where
        site_is : first_site_at ws w bytes room ≡ accepted (first_site b (tree_at vs))
        site_is = site_at false (le-ltb bytes 63 l) ∙ ap₂ (λ (n : ℕ) (u : Expr). accepted (first_site n u)) (sym i) (sym walked)

        module _ (m : ℕ) (f : y ≡ Continue m) where
          no_site : first_site_at ws w bytes room ≡ accepted none
          no_site = site_is ∙ ap accepted (none_is _ k path after y q m f).0

          pub no_site_answered : accepted none ≡ mapped (map numbers) (first_site_at ws w bytes room)
          no_site_answered = sym (ap (mapped (map numbers)) no_site)

          pub no_path_written : after ≡ written (λ s. s.path) (first_site_at ws w bytes room) path
          no_path_written = (none_is _ k path after y q m f).2 ∙ sym (ap (λ (o : Outcome (Option def.Site)). written (λ s. s.path) o path) no_site)

          pub no_words_written : (out : List ℕ) → out ≡ written (λ s. encode s.replacement) (first_site_at ws w bytes room) out
          no_words_written out = sym (ap (λ (o : Outcome (Option def.Site)). written (λ s. encode s.replacement) o out) no_site)

        module _ (s : Site) (f : y ≡ Break s) where
          found : (site : def.Site) × (first_site b (tree_at vs) ≡ some site) × IsFound site path after s
          found = found_is _ k path after y q s f

          pub site_writable : Writable s.node.words.now s.local room
          site_writable = record {
            tree = found.0.replacement;
            makes = found.2.makes;
            fits = fits ws w room t e found.0.replacement (omega (arith, (first_site_lem b (tree_at vs) found.0 found.1).few, ap nodes walked));
          }

          the_site : first_site_at ws w bytes room ≡ accepted (some found.0)
          the_site = site_is ∙ ap accepted found.1

          pub site_path_written : after ≡ written (λ z. z.path) (first_site_at ws w bytes room) path
          site_path_written = found.2.bytes.is ∙ sym (ap (λ (o : Outcome (Option def.Site)). written (λ z. z.path) o path) the_site)

          module _ (out out' : List ℕ) (n : ℕ) (d : Writes s.node.words.now s.local out out' n) where
            pub site_answered : accepted (some (s.levels, n / 2)) ≡ mapped (map numbers) (first_site_at ws w bytes room)
            site_answered =
                let c : n / 2 ≡ nodes found.0.replacement = omega (arith, d.count found.0.replacement found.2.makes, length_encode found.0.replacement) in
                ap₂ (λ (x z : ℕ). accepted (some (x, z))) found.2.levels_is c ∙ sym (ap (mapped (map numbers)) the_site)

            pub site_words_written : out' ≡ written (λ z. encode z.replacement) (first_site_at ws w bytes room) out
            site_words_written =
                (d.laid found.0.replacement found.2.makes).is ∙ sym (ap (λ (o : Outcome (Option def.Site)). written (λ z. encode z.replacement) o out) the_site)

pub ruleset site_call = (site_refused, site_refused_written, path_refused, path_refused_written, call_depth, no_site_answered, no_path_written, no_words_written, site_writable, site_path_written, site_answered, site_words_written)
