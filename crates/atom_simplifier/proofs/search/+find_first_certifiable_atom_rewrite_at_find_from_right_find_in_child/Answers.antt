-- `atom_simplifier::search::find_first_certifiable_atom_rewrite_at` and `find_from_right` and `find_in_child` meet their contracts. Assumes nothing.
use Rattle.arith.specs.NeedLaws.{basics}
use Rattle.atom_simplifier.proofs.SearchLaws.{searching, from_right, in_child}
use Rattle.atom_simplifier.proofs.search.+find_first_certifiable_atom_rewrite_at_find_from_right_find_in_child.Goals as goal

ruleset tree_laws = (basics, searching)

pub find_first_certifiable_atom_rewrite_at-find_in_child-requires : goal.find_first_certifiable_atom_rewrite_at-find_in_child-requires
find_first_certifiable_atom_rewrite_at-find_in_child-requires t c = search tree_laws

pub find_first_certifiable_atom_rewrite_at-returns-in_err-n-in-One : goal.find_first_certifiable_atom_rewrite_at-returns-in_err-n-in-One
find_first_certifiable_atom_rewrite_at-returns-in_err-n-in-One t c = search (tree_laws, c.in_err-n-in-One.was)

pub find_first_certifiable_atom_rewrite_at-overflow_add-root : goal.find_first_certifiable_atom_rewrite_at-overflow_add-root
find_first_certifiable_atom_rewrite_at-overflow_add-root t c = search (tree_laws, c.in_ok-n-in-One.was)

pub find_first_certifiable_atom_rewrite_at-slice_bounds-root-end : goal.find_first_certifiable_atom_rewrite_at-slice_bounds-root-end
find_first_certifiable_atom_rewrite_at-slice_bounds-root-end t c = search (tree_laws, c.in_ok-n-in-One.was)

pub find_first_certifiable_atom_rewrite_at-invariant_of-root : goal.find_first_certifiable_atom_rewrite_at-invariant_of-root
find_first_certifiable_atom_rewrite_at-invariant_of-root t c = search (tree_laws, c.in_ok-n-in-One.was)

pub find_first_certifiable_atom_rewrite_at-find_in_child-requires-in-Two : goal.find_first_certifiable_atom_rewrite_at-find_in_child-requires-in-Two
find_first_certifiable_atom_rewrite_at-find_in_child-requires-in-Two t c = search tree_laws

pub find_first_certifiable_atom_rewrite_at-returns-in_err-left-in-Two : goal.find_first_certifiable_atom_rewrite_at-returns-in_err-left-in-Two
find_first_certifiable_atom_rewrite_at-returns-in_err-left-in-Two t c = search (tree_laws, c.in_err-left-in-Two.was)

pub find_first_certifiable_atom_rewrite_at-overflow_add-left : goal.find_first_certifiable_atom_rewrite_at-overflow_add-left
find_first_certifiable_atom_rewrite_at-overflow_add-left t c = search (tree_laws, c.in_ok-left-in-Two.was)

pub find_first_certifiable_atom_rewrite_at-find_from_right-requires : goal.find_first_certifiable_atom_rewrite_at-find_from_right-requires
find_first_certifiable_atom_rewrite_at-find_from_right-requires t c = search (tree_laws, c.in_ok-left-in-Two.was)

pub find_first_certifiable_atom_rewrite_at-returns-in-Zero : goal.find_first_certifiable_atom_rewrite_at-returns-in-Zero
find_first_certifiable_atom_rewrite_at-returns-in-Zero t c = search tree_laws

pub find_first_certifiable_atom_rewrite_at-returns-in_ok-n-in-One : goal.find_first_certifiable_atom_rewrite_at-returns-in_ok-n-in-One
find_first_certifiable_atom_rewrite_at-returns-in_ok-n-in-One t c = search (tree_laws, c.in_ok-n-in-One.was)

pub find_first_certifiable_atom_rewrite_at-returns-in_ok-left-in-Two : goal.find_first_certifiable_atom_rewrite_at-returns-in_ok-left-in-Two
find_first_certifiable_atom_rewrite_at-returns-in_ok-left-in-Two t c = search (tree_laws, c.in_ok-left-in-Two.was)

ruleset right_laws = (basics, from_right)

pub find_from_right-find_in_child-requires : goal.find_from_right-find_in_child-requires
find_from_right-find_in_child-requires t c = search right_laws

pub find_from_right-returns-in_err-n : goal.find_from_right-returns-in_err-n
find_from_right-returns-in_err-n t c = search (right_laws, c.in_err-n.was)

pub find_from_right-overflow_add-root : goal.find_from_right-overflow_add-root
find_from_right-overflow_add-root t c = search (right_laws, c.in_ok-n.was)

pub find_from_right-slice_bounds-root-end : goal.find_from_right-slice_bounds-root-end
find_from_right-slice_bounds-root-end t c = search (right_laws, c.in_ok-n.was)

pub find_from_right-invariant_of-root : goal.find_from_right-invariant_of-root
find_from_right-invariant_of-root t c = search (right_laws, c.in_ok-n.was)

pub find_from_right-invariant_of-binary_rewrite : goal.find_from_right-invariant_of-binary_rewrite
find_from_right-invariant_of-binary_rewrite t c = search (right_laws, c.in_ok-n.was)

pub find_from_right-returns : goal.find_from_right-returns
find_from_right-returns t c = search (right_laws, c.in_ok-n.was)

ruleset child_laws = (basics, in_child)

pub find_in_child-slice_bounds-find_first_certifiable_atom_rewrite_at-count : goal.find_in_child-slice_bounds-find_first_certifiable_atom_rewrite_at-count
find_in_child-slice_bounds-find_first_certifiable_atom_rewrite_at-count t c = search child_laws

pub find_in_child-slice_bounds-find_first_certifiable_atom_rewrite_at-start : goal.find_in_child-slice_bounds-find_first_certifiable_atom_rewrite_at-start
find_in_child-slice_bounds-find_first_certifiable_atom_rewrite_at-start t c = search child_laws

pub find_in_child-invariant_of-child : goal.find_in_child-invariant_of-child
find_in_child-invariant_of-child t c = search child_laws

pub find_in_child-find_first_certifiable_atom_rewrite_at-requires : goal.find_in_child-find_first_certifiable_atom_rewrite_at-requires
find_in_child-find_first_certifiable_atom_rewrite_at-requires t c = search child_laws

pub find_in_child-bounds-path-0 : goal.find_in_child-bounds-path-0
find_in_child-bounds-path-0 t c = search child_laws

pub find_in_child-overflow_add-result : goal.find_in_child-overflow_add-result
find_in_child-overflow_add-result t c = search child_laws

pub find_in_child-returns-in-Continue : goal.find_in_child-returns-in-Continue
find_in_child-returns-in-Continue t c = search child_laws

pub find_in_child-returns-in-Break : goal.find_in_child-returns-in-Break
find_in_child-returns-in-Break t c = search child_laws
