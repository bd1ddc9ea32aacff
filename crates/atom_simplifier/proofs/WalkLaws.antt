-- The node at the front of the words that a walk has before it. Assumes nothing.
use mathlib.Core.Path.{◌≡◌, refl, sym, ap, ap₂, subst, ◌∙◌}
use mathlib.Core.List.{List}
use Prim.Native.Nat.{ℕ, ◌+◌, ◌≤◌}
use native.Mathlib.Omega.{arith}
use lib.ListN.{length, drop, get_or, length-append}
use lib.Seq.{drop-drop}
use Rattle.expr.specs.declared.Arity.TheVariants as arity
use Rattle.expr.specs.Outcome.{accepted}
use Rattle.expr.specs.Expr.{Expr, unary, binary, encode}
use Rattle.expr.specs.Parse.{arity_of}
use Rattle.expr.specs.Parts.{tail}
use Rattle.expr.specs.TailLaws.{tail_drop}
use Rattle.expr.specs.Front.{Front, Leads, tree_at}
use Rattle.expr.specs.FrontLaws.{UnaryNode, BinaryNode, unary_node, binary_node, front_length, has_node}
use Rattle.expr.specs.PartLaws.{front_tree, starts_front, starts_lead, lead_starts}

module _ (ws : List ℕ) (x : Leads ws) where
  pub front : Front ws (tree_at ws)
  front = starts_front ws (lead_starts ws x)

  pub front_inside : (n : ℕ) → n ≡ length (encode (tree_at ws)) → n ≤ length ws
  front_inside n e = omega (arith, front_length ws (tree_at ws) front)

  pub node_inside : 2 ≤ length ws
  node_inside = has_node ws (lead_starts ws x)

-- a node over one child
module _ (ws : List ℕ) (x : Leads ws) (e : arity_of (get_or ws 0 0) ≡ accepted 1) where
  pub single : UnaryNode ws (tree_at ws)
  single = unary_node ws arity.One (sym e) (tree_at ws) refl (front ws x)

  pub node_is : tree_at ws ≡ unary single.kind (tree_at (tail 2 ws))
  node_is = single.is ∙ ap (unary single.kind) (sym (front_tree (tail 2 ws) single.child single.below))

  pub child_leads : Leads (tail 2 ws)
  child_leads = starts_lead (tail 2 ws) (record { tree = single.child; front = single.below })

-- a node over two children
module _ (ws : List ℕ) (x : Leads ws) (e : arity_of (get_or ws 0 0) ≡ accepted 2) where
  pub pair : BinaryNode ws (tree_at ws)
  pair = binary_node ws arity.Two (sym e) (tree_at ws) refl (front ws x)

  left_is : tree_at (tail 2 ws) ≡ pair.left
  left_is = front_tree (tail 2 ws) pair.left pair.left_below

  pub left_leads : Leads (tail 2 ws)
  left_leads = starts_lead (tail 2 ws) (record { tree = pair.left; front = pair.left_below })

  -- the right child's words begin where the left one's end
  module _ (right : ℕ) (c : right ≡ 2 + length (encode (tree_at (tail 2 ws)))) where
    right_front : Front (tail right ws) pair.right
    right_front =
        let n = length (encode pair.left) in
        let k : right ≡ 2 + n = c ∙ ap (λ (t : Expr). 2 + length (encode t)) left_is in
        let tails : tail n (tail 2 ws) ≡ tail right ws =
        tail_drop n (tail 2 ws) ∙ ap (drop n) (tail_drop 2 ws) ∙ drop-drop n 2 ws ∙ ap (λ (i : ℕ). drop i ws) (sym k) ∙ sym (tail_drop right ws)
        in
        subst (λ (l : List ℕ). Front l pair.right) tails pair.right_below

    pub both_are : tree_at ws ≡ binary pair.kind (tree_at (tail 2 ws)) (tree_at (tail right ws))
    both_are = pair.is ∙ ap₂ (binary pair.kind) (sym left_is) (sym (front_tree (tail right ws) pair.right right_front))

    pub right_leads : Leads (tail right ws)
    right_leads = starts_lead (tail right ws) (record { tree = pair.right; front = right_front })

    pub two_length : length (encode (tree_at ws)) ≡ right + length (encode (tree_at (tail right ws)))
    unfolding encode
    two_length = ap (λ (t : Expr). length (encode t)) both_are ∙ omega (arith, c, length-append (encode (tree_at (tail 2 ws))) (encode (tree_at (tail right ws))))

    pub right_inside : right ≤ length ws
    right_inside = omega (arith, two_length, front_inside ws x (length (encode (tree_at ws))) refl)
