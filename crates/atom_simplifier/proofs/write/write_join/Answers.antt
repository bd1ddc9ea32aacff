-- `atom_simplifier::write::write_join` meets its contract. Assumes nothing.
use Rattle.arith.specs.NeedLaws.{basics}
use Rattle.atom_simplifier.proofs.WriteLaws.{join_laid}
use Rattle.atom_simplifier.proofs.write.write_join.Goals as goal

ruleset laws = (basics, join_laid)

pub returns : goal.returns
returns c = search laws
