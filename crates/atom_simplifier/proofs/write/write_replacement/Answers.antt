-- `atom_simplifier::write::write_replacement` meets its contract. Assumes nothing.
use Rattle.arith.specs.NeedLaws.{basics}
use Rattle.atom_simplifier.proofs.ReplacementLaws.{replacing}
use Rattle.atom_simplifier.proofs.write.write_replacement.Goals as goal

ruleset laws = (basics, replacing)

pub overflow_add-at : goal.overflow_add-at
overflow_add-at c = search laws

pub offset_bounds-words-at : goal.offset_bounds-words-at
offset_bounds-words-at c = search laws

pub slice_bounds-copy-end : goal.slice_bounds-copy-end
slice_bounds-copy-end c = search laws

pub copy-requires : goal.copy-requires
copy-requires c = search laws

pub put_node-requires : goal.put_node-requires
put_node-requires c = search laws

pub bounds-words-0 : goal.bounds-words-0
bounds-words-0 c = search laws

pub overflow_add-at-in-Join : goal.overflow_add-at-in-Join
overflow_add-at-in-Join c = search laws

pub offset_bounds-words-at-in-Join : goal.offset_bounds-words-at-in-Join
offset_bounds-words-at-in-Join c = search laws

pub slice_bounds-write_join-end : goal.slice_bounds-write_join-end
slice_bounds-write_join-end c = search laws

pub write_join-requires : goal.write_join-requires
write_join-requires c = search laws

pub write_de_morgan-requires : goal.write_de_morgan-requires
write_de_morgan-requires c = search laws

pub returns-in-Part : goal.returns-in-Part
returns-in-Part c = search laws

pub returns-in-Constant : goal.returns-in-Constant
returns-in-Constant c = search laws

pub returns-in-Join : goal.returns-in-Join
returns-in-Join c = search laws

pub returns-in-DeMorgan : goal.returns-in-DeMorgan
returns-in-DeMorgan c = search laws
