-- `value::values::Values` as a `Fold`: `leaf` meets its contract. Assumes nothing.
use mathlib.Core.Path.{◌∙◌}
use borrow.Author.Rules.{rules}
use Rattle.value.proofs.NodeLaws.{constant_found, variable_found, variable_none}
use Rattle.value.proofs.values.ValuesFold.leaf.Goals as goal

pub returns-in-Constant : goal.returns-in-Constant
returns-in-Constant c = constant_found _ _ c.args.self.now.width.most _ _ _ c.in-Constant.is c.trunc.ensures

pub returns-in_err-word-in-Variable : goal.returns-in_err-word-in-Variable
returns-in_err-word-in-Variable c = c.from_residual.ensures ∙ variable_none _ _ _ _ c.in-Variable.is c.in_err-word-in-Variable.ensures.lookup.0

pub returns-in_ok-word-in-Variable : goal.returns-in_ok-word-in-Variable
returns-in_ok-word-in-Variable c =
    let found = c.in_ok-word-in-Variable.ensures.lookup in
    variable_found _ _ c.args.self.now.width.most _ _ _ _ c.in-Variable.is (search (rules, found)) (search (rules, found)) c.trunc-in-Variable.ensures
