-- `hexadecimal::put_nodes` meets its contract. Assumes nothing.
use borrow.Author.Rules.{rules}
use Rattle.hexadecimal.proofs.LoopLaws.{writing}
use Rattle.hexadecimal.proofs.put_nodes.Goals as goal

ruleset laws = (rules, writing)

pub put_node-requires : goal.put_node-requires
put_node-requires c = search laws

pub loop-i-init : goal.loop-i-init
loop-i-init c = search laws

pub loop-i-preserved : goal.loop-i-preserved
loop-i-preserved c = search laws

pub returns : goal.returns
returns c = search laws
