-- `expr::span` meets its contract. Assumes nothing.
use native.Mathlib.Omega.{arith}
use borrow.Author.Rules.{rules}
use Rattle.expr.proofs.DueLaws.{span_count, going_first, words_ended, kind_refused, going_next, last_node, none_follows}
use Rattle.expr.proofs.span.Goals as goal

ruleset laws = (rules, span_count, going_first, words_ended, kind_refused, going_next, last_node, none_follows)

pub returns-then-not-word_count_ok : goal.returns-then-not-word_count_ok
returns-then-not-word_count_ok c = search laws

pub loop-at-init : goal.loop-at-init
loop-at-init c = search laws

pub returns-in_err-arity : goal.returns-in_err-arity
returns-in_err-arity c =
    let stopped = kind_refused _ _ _ c.loop-at.invariant.0 c.loop-at.invariant.1 c.loop-at-test.true _ c.in_err-arity.ensures in
    search (rules, stopped)

pub returns-then-due-eq0 : goal.returns-then-due-eq0
returns-then-due-eq0 c =
    last_node _ _ _ c.loop-at.invariant.0 c.loop-at.invariant.1 c.loop-at-test.true _ c.in_ok-arity.ensures _ c.children.ensures c.if-due-eq0.true

pub loop-at-preserved : goal.loop-at-preserved
loop-at-preserved c = (
  going_next _ _ _ c.loop-at.invariant.0 c.loop-at.invariant.1 c.loop-at-test.true _ c.in_ok-arity.ensures _ c.children.ensures,
  omega (arith, c.if-due-eq0.false),
)

pub returns-else-not-word_count_ok : goal.returns-else-not-word_count_ok
returns-else-not-word_count_ok c = search laws

pub returns-else-due-eq0 : goal.returns-else-due-eq0
returns-else-due-eq0 c =
    none_follows _ _ _ c.loop-at.invariant.0 c.loop-at.invariant.1 c.loop-at-test.true _ c.in_ok-arity.ensures _ c.children.ensures
    (omega (arith, c.if-due-eq0.false)) (search rules)
