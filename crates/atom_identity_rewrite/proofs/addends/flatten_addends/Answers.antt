-- Each goal is a law of `AddendLaws`.
use Rattle.std.proofs.Common.{rules}
use Rattle.atom_identity_rewrite.proofs.AddendLaws.{gathers}
use Rattle.atom_identity_rewrite.proofs.addends.flatten_addends.Goals as goal

ruleset laws = (rules, gathers)

pub loop-due-init : goal.loop-due-init
loop-due-init c = search laws

pub bounds-signs-top : goal.bounds-signs-top
bounds-signs-top c = search laws

pub bounds-words-start : goal.bounds-words-start
bounds-words-start c = search laws

pub bounds-signs-due : goal.bounds-signs-due
bounds-signs-due c = search laws

pub overflow_add-due : goal.overflow_add-due
overflow_add-due c = search laws

pub loop-due-preserved-in-2 : goal.loop-due-preserved-in-2
loop-due-preserved-in-2 c = search laws

pub bounds-signs-top-in-8 : goal.bounds-signs-top-in-8
bounds-signs-top-in-8 c = search laws

pub loop-due-preserved-in-8 : goal.loop-due-preserved-in-8
loop-due-preserved-in-8 c = search laws

pub unwrap-len-requires : goal.unwrap-len-requires
unwrap-len-requires c = search laws

pub bounds-list-count : goal.bounds-list-count
bounds-list-count c = search laws

pub overflow_add-start-in_default : goal.overflow_add-start-in_default
overflow_add-start-in_default c = search laws

pub loop-due-smaller : goal.loop-due-smaller
loop-due-smaller c = search laws

pub loop-due-preserved : goal.loop-due-preserved
loop-due-preserved c = search laws

pub invariant_of-result : goal.invariant_of-result
invariant_of-result c = search laws
