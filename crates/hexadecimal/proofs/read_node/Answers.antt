-- `hexadecimal::read_node` meets its contract. Assumes nothing.
use borrow.Author.Rules.{rules}
use Rattle.hexadecimal.proofs.LoopLaws.{node_good, node_read}
use Rattle.hexadecimal.proofs.read_node.Goals as goal

ruleset laws = (rules, node_good, node_read)

pub returns-clause-good : goal.returns-clause-good
returns-clause-good c = search laws

pub returns-clause-written : goal.returns-clause-written
returns-clause-written c = search laws
