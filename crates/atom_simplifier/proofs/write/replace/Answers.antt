-- `atom_simplifier::write::replace` meets its contract. Assumes nothing.
use Rattle.arith.specs.NeedLaws.{basics}
use Rattle.atom_simplifier.proofs.ReplaceLaws.{in_place}
use Rattle.atom_simplifier.proofs.write.replace.Goals as goal

ruleset laws = (basics, in_place)

pub move_down-requires : goal.move_down-requires
move_down-requires c = search laws

pub put_node-requires : goal.put_node-requires
put_node-requires c = search laws

pub join_down-requires : goal.join_down-requires
join_down-requires c = search laws

pub overflow_add-result : goal.overflow_add-result
overflow_add-result c = search laws

pub returns-in-Part : goal.returns-in-Part
returns-in-Part c = search laws

pub returns-in-Constant : goal.returns-in-Constant
returns-in-Constant c = search laws

pub returns-in-Join : goal.returns-in-Join
returns-in-Join c = search laws

pub returns-in-DeMorgan : goal.returns-in-DeMorgan
returns-in-DeMorgan c = search laws
