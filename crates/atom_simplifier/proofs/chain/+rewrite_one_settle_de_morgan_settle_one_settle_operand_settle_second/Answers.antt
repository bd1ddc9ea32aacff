-- `atom_simplifier::chain::rewrite_one` and `settle_de_morgan` and `settle_one` and `settle_operand` and `settle_second` meet their contracts. Assumes nothing.
use Rattle.arith.specs.NeedLaws.{basics}
use Rattle.atom_simplifier.proofs.TurnLaws.{rewriting_one, turning, settling_one, settling_operand, settling_second}
use Rattle.atom_simplifier.proofs.chain.+rewrite_one_settle_de_morgan_settle_one_settle_operand_settle_second.Goals as goal

ruleset rewrite_one_laws = (basics, rewriting_one)

pub rewrite_one-returns-in_default : goal.rewrite_one-returns-in_default
rewrite_one-returns-in_default t c = search rewrite_one_laws

pub rewrite_one-settle_de_morgan-requires : goal.rewrite_one-settle_de_morgan-requires
rewrite_one-settle_de_morgan-requires t c = search rewrite_one_laws

pub rewrite_one-replace-requires : goal.rewrite_one-replace-requires
rewrite_one-replace-requires t c = search (rewrite_one_laws, c.in_default-rewrite.not-DeMorgan)

pub rewrite_one-returns-in_default-rewrite : goal.rewrite_one-returns-in_default-rewrite
rewrite_one-returns-in_default-rewrite t c = search (rewrite_one_laws, c.in_default-rewrite.not-DeMorgan)

ruleset settle_de_morgan_laws = (basics, turning)

pub settle_de_morgan-turn_kind-requires : goal.settle_de_morgan-turn_kind-requires
settle_de_morgan-turn_kind-requires t c = search settle_de_morgan_laws

pub settle_de_morgan-slice_bounds-settle_operand-count : goal.settle_de_morgan-slice_bounds-settle_operand-count
settle_de_morgan-slice_bounds-settle_operand-count t c = search settle_de_morgan_laws

pub settle_de_morgan-slice_bounds-settle_operand-start : goal.settle_de_morgan-slice_bounds-settle_operand-start
settle_de_morgan-slice_bounds-settle_operand-start t c = search settle_de_morgan_laws

pub settle_de_morgan-settle_operand-first-requires : goal.settle_de_morgan-settle_operand-first-requires
settle_de_morgan-settle_operand-first-requires t c = search settle_de_morgan_laws

pub settle_de_morgan-settle_second-rest-requires : goal.settle_de_morgan-settle_second-rest-requires
settle_de_morgan-settle_second-rest-requires t c = search settle_de_morgan_laws

pub settle_de_morgan-overflow_add-result-2 : goal.settle_de_morgan-overflow_add-result-2
settle_de_morgan-overflow_add-result-2 t c = search settle_de_morgan_laws

pub settle_de_morgan-returns : goal.settle_de_morgan-returns
settle_de_morgan-returns t c = search settle_de_morgan_laws

ruleset settle_one_laws = (basics, settling_one)

pub settle_one-slice_bounds-tree-end : goal.settle_one-slice_bounds-tree-end
settle_one-slice_bounds-tree-end t c = search settle_one_laws

pub settle_one-invariant_of-tree : goal.settle_one-invariant_of-tree
settle_one-invariant_of-tree t c = record { whole = search settle_one_laws; short = search settle_one_laws }

ruleset settle_operand_laws = (basics, settling_operand)

pub settle_operand-bounds-work-from : goal.settle_operand-bounds-work-from
settle_operand-bounds-work-from t c = search settle_operand_laws

pub settle_operand-overflow_sub-len : goal.settle_operand-overflow_sub-len
settle_operand-overflow_sub-len t c = search settle_operand_laws

pub settle_operand-move_down-requires : goal.settle_operand-move_down-requires
settle_operand-move_down-requires t c = search settle_operand_laws

pub settle_operand-overflow_sub-result : goal.settle_operand-overflow_sub-result
settle_operand-overflow_sub-result t c = search settle_operand_laws

pub settle_operand-returns-then-work-from-eq-NOT : goal.settle_operand-returns-then-work-from-eq-NOT
settle_operand-returns-then-work-from-eq-NOT t c = search settle_operand_laws

pub settle_operand-slice_bounds-put_node-count : goal.settle_operand-slice_bounds-put_node-count
settle_operand-slice_bounds-put_node-count t c = search settle_operand_laws

pub settle_operand-slice_bounds-put_node-start : goal.settle_operand-slice_bounds-put_node-start
settle_operand-slice_bounds-put_node-start t c = search settle_operand_laws

pub settle_operand-put_node-requires : goal.settle_operand-put_node-requires
settle_operand-put_node-requires t c = search settle_operand_laws

pub settle_operand-settle_one-settled-requires : goal.settle_operand-settle_one-settled-requires
settle_operand-settle_one-settled-requires t c = search settle_operand_laws

pub settle_operand-returns : goal.settle_operand-returns
settle_operand-returns t c = search settle_operand_laws

ruleset settle_second_laws = (basics, settling_second)

pub settle_second-settle_operand-second-requires : goal.settle_second-settle_operand-second-requires
settle_second-settle_operand-second-requires t c = search settle_second_laws

pub settle_second-settle_two-top-requires : goal.settle_second-settle_two-top-requires
settle_second-settle_two-top-requires t c = (search settle_second_laws, search settle_second_laws, search settle_second_laws)

pub settle_second-returns : goal.settle_second-returns
settle_second-returns t c = search settle_second_laws
