-- `hexadecimal::put_node` meets its contract. Assumes nothing.
use borrow.Author.Rules.{rules}
use Rattle.hexadecimal.proofs.OperandLaws.{node_put}
use Rattle.hexadecimal.proofs.put_node.Goals as goal

ruleset laws = (rules, node_put)

pub returns : goal.returns
returns c = search laws
