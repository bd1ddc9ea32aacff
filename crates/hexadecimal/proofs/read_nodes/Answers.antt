-- `hexadecimal::read_nodes` meets its contract. Assumes nothing.
use Rattle.std.proofs.Common.{arith}
use borrow.Author.Rules.{rules}
use Rattle.hexadecimal.proofs.LoopLaws.{filling, one_filled}
use Rattle.hexadecimal.proofs.read_nodes.Goals as goal

ruleset laws = (rules, filling)

pub loop-i-init : goal.loop-i-init
loop-i-init c = search laws

pub loop-i-preserved : goal.loop-i-preserved
loop-i-preserved c =
    one_filled _ _ _ _ _ c.loop-i.invariant (omega arith) _ c.read_node-right.ensures.good _ c.read_node-right.ensures.written

pub returns : goal.returns
returns c = search laws
