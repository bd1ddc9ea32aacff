-- `expr::has_variable` meets its contract. Assumes nothing.
use Rattle.std.proofs.Common.{rules}
use Rattle.expr.proofs.VariableLaws.{looking_first, variable_none, variable_found, looking_on}
use Rattle.expr.proofs.has_variable.Goals as goal

pub loop-place-init : goal.loop-place-init
loop-place-init c = looking_first _

pub returns-then-words-place-eq-VARIABLE : goal.returns-then-words-place-eq-VARIABLE
returns-then-words-place-eq-VARIABLE c = variable_found _ _ c.loop-place.invariant c.loop-place-test.true c.if-words-place-eq-VARIABLE.true _ c.args.tree.whole.words

pub loop-place-preserved : goal.loop-place-preserved
loop-place-preserved c = looking_on _ _ c.loop-place.invariant c.loop-place-test.true c.if-words-place-eq-VARIABLE.false

pub returns : goal.returns
returns c = variable_none _ _ c.loop-place.invariant c.loop-place-test.false _ c.args.tree.whole.words

pub returns-else-words-place-eq-VARIABLE : goal.returns-else-words-place-eq-VARIABLE
returns-else-words-place-eq-VARIABLE c =
    variable_none _ _ (looking_on _ _ c.loop-place.invariant c.loop-place-test.true c.if-words-place-eq-VARIABLE.false) (search rules) _ c.args.tree.whole.words
