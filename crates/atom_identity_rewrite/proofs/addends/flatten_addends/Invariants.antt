-- `flatten_addends` meets its contract. The measure is the number of words left. Assumes nothing.
use Rattle.std.proofs.Common.{◌-◌, length}
use Rattle.atom_identity_rewrite.proofs.AddendLaws.{Gathering}
use Rattle.atom_identity_rewrite.proofs.addends.flatten_addends.Given as goal

abbrev pub invariant-loop-due : goal.invariant-loop-due
invariant-loop-due l = Gathering l.node l.list l.count l.signs l.due l.start

abbrev pub decreases-loop-due : goal.decreases-loop-due
decreases-loop-due l = length l.node.words.now - l.start
