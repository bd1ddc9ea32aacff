-- `report_lines::sound_room` meets its contract. Assumes nothing.
use Rattle.std.proofs.Common.{rules, arith}
use Rattle.std.proofs.lemmas.Bool.Decides.{nat_tests}
use Rattle.report_lines.specs.Steps.{sound_room}
use Rattle.report_lines.proofs.sound_room.Goals as goal

pub returns-then-work-ge4096 : goal.returns-then-work-ge4096
unfolding sound_room
returns-then-work-ge4096 c = search rules

pub returns-else-work-ge4096 : goal.returns-else-work-ge4096
unfolding sound_room
returns-else-work-ge4096 c = grind (arith, nat_tests)
