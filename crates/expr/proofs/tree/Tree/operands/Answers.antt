-- `expr::tree::Tree::operands` meets its contract. Assumes nothing.
use Rattle.std.proofs.Common.{rules}
use Rattle.expr.proofs.ChildLaws.{operand_pairs, operands_arity}
use Rattle.expr.proofs.tree.Tree.operands.Goals as goal

ruleset laws = (rules, operand_pairs)

pub bounds-words-0 : goal.bounds-words-0
bounds-words-0 c = search laws

pub returns-then-words-number : goal.returns-then-words-number
returns-then-words-number c = search laws

pub both-requires : goal.both-requires
both-requires c = search (rules, operands_arity c.args.self.words.now c.args.self.whole c.args.kind _ c.number.ensures)

pub returns : goal.returns
returns c = search laws
