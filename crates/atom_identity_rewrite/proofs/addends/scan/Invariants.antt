-- What reading the addends up to a has made of the start.
use Rattle.std.proofs.Common.{take}
use Rattle.atom_identity_rewrite.specs.Promises.{ReadAll}
use Rattle.atom_identity_rewrite.proofs.addends.scan.Given as goal

abbrev pub invariant-loop-a : goal.invariant-loop-a
invariant-loop-a g l = ReadAll l.sum.words.now (take l.a-index l.list) (goal.F-post g l.read) l.fn.start l.state
