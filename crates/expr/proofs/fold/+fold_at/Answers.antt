-- `expr::fold::fold_at` meets its contract. The measure is the number of words left. Assumes nothing.
use borrow.Author.Rules.{rules}
use Rattle.expr.specs.Expr.{leaf}
use Rattle.expr.specs.DomainLaws.{on_any}
use Rattle.expr.specs.FrontLaws.{walk, child_starts, left_starts, right_starts}
use Rattle.expr.specs.PartLaws.{lead_starts, starts_lead}
use Rattle.expr.proofs.FoldLaws.{leaf_read, unary_read, binary_read, few_left, leaf_fits, unary_operand_fits}
use Rattle.expr.proofs.fold.+fold_at.Goals as goal

ruleset laws = (rules, walk, lead_starts, leaf_read, few_left, leaf_fits, unary_operand_fits)

pub bounds-ws-0 : goal.bounds-ws-0
bounds-ws-0 g t c = search laws

pub slice_bounds-rest-count : goal.slice_bounds-rest-count
slice_bounds-rest-count g t c = search laws

pub slice_bounds-rest-start : goal.slice_bounds-rest-start
slice_bounds-rest-start g t c = search laws

pub bounds-ws-1 : goal.bounds-ws-1
bounds-ws-1 g t c = search laws

pub overflow_add-result : goal.overflow_add-result
overflow_add-result g t c = search laws

pub bounds-ws-1-in-One : goal.bounds-ws-1-in-One
bounds-ws-1-in-One g t c = search laws

pub offset_bounds-rest-from : goal.offset_bounds-rest-from
offset_bounds-rest-from g t c = search laws

pub slice_bounds-right-count : goal.slice_bounds-right-count
slice_bounds-right-count g t c = search laws

pub slice_bounds-right-start : goal.slice_bounds-right-start
slice_bounds-right-start g t c = search laws

pub overflow_add-result-in-Two : goal.overflow_add-result-in-Two
overflow_add-result-in-Two g t c = search laws

pub overflow_add-result-in-Two-2 : goal.overflow_add-result-in-Two-2
overflow_add-result-in-Two-2 g t c = search laws

pub returns-in-Zero : goal.returns-in-Zero
returns-in-Zero g t c = search (laws, on_any (leaf c.of.result) g.F.Fold.domain c.leaf.ensures)

pub returns-in-One : goal.returns-in-One
returns-in-One g t c =
    let e = c.arity.ensures in
    unary_read c.args.walk.words.now _ e _ c.in-One.is _ _ c.fold_at-words.ensures _ c.of-in-One.ensures c.unary.ensures

pub returns-in-Two : goal.returns-in-Two
returns-in-Two g t c =
    let e = c.arity.ensures in
    binary_read c.args.walk.words.now _ e _ c.in-Two.is _ _ _ _ c.fold_at-left.ensures c.fold_at-right.ensures _ c.of-in-Two.ensures c.binary.ensures

pub of-requires : goal.of-requires
of-requires g t c = search laws

pub of-requires-in-One : goal.of-requires-in-One
of-requires-in-One g t c = search laws

pub invariant_of-fold_at-clause-leads : goal.invariant_of-fold_at-clause-leads
invariant_of-fold_at-clause-leads g t c =
    starts_lead _ (child_starts c.args.walk.words.now (lead_starts _ c.args.walk.leads) _ c.arity.ensures c.in-One.is)

pub invariant_of-fold_at-clause-short : goal.invariant_of-fold_at-clause-short
invariant_of-fold_at-clause-short g t c = few_left 2 c.args.walk.words.now c.args.walk.short

pub fold_at-words-requires : goal.fold_at-words-requires
fold_at-words-requires g t c κs within = search (laws, within)

pub invariant_of-fold_at-in-Two-clause-leads : goal.invariant_of-fold_at-in-Two-clause-leads
invariant_of-fold_at-in-Two-clause-leads g t c =
    starts_lead _ (left_starts c.args.walk.words.now (lead_starts _ c.args.walk.leads) _ c.arity.ensures c.in-Two.is)

pub invariant_of-fold_at-in-Two-clause-short : goal.invariant_of-fold_at-in-Two-clause-short
invariant_of-fold_at-in-Two-clause-short g t c = few_left 2 c.args.walk.words.now c.args.walk.short

pub fold_at-left-requires : goal.fold_at-left-requires
fold_at-left-requires g t c κs within = search (laws, within)

pub invariant_of-fold_at-in-Two-2-clause-leads : goal.invariant_of-fold_at-in-Two-2-clause-leads
invariant_of-fold_at-in-Two-2-clause-leads g t c =
    starts_lead _ (right_starts c.args.walk.words.now (lead_starts _ c.args.walk.leads) _ c.arity.ensures c.in-Two.is _ c.fold_at-left.ensures.spans)

pub invariant_of-fold_at-in-Two-2-clause-short : goal.invariant_of-fold_at-in-Two-2-clause-short
invariant_of-fold_at-in-Two-2-clause-short g t c = few_left _ _ (few_left 2 c.args.walk.words.now c.args.walk.short)

pub fold_at-right-requires : goal.fold_at-right-requires
fold_at-right-requires g t c κs within = search (laws, within)
