-- Each goal is a law of `CallLaws`.
use Rattle.std.proofs.Common.{rules}
use Rattle.atom_identity_rewrite.proofs.CallLaws.{handing}
use Rattle.atom_identity_rewrite.proofs.hand_over.Goals as goal

ruleset laws = (rules, handing)

pub overflow_sub-result : goal.overflow_sub-result
overflow_sub-result c = search laws

pub write_candidate-requires : goal.write_candidate-requires
write_candidate-requires c = search laws

pub returns-in-Left : goal.returns-in-Left
returns-in-Left c = search (laws, c.in-Left.ensures)

pub returns-in-Found : goal.returns-in-Found
returns-in-Found c = search (laws, c.in-Found.ensures)
