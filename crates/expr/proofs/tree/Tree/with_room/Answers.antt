-- `expr::tree::Tree::with_room` meets its contract. Assumes nothing.
use Rattle.std.proofs.Common.{arith}
use Rattle.expr.proofs.ChildLaws.{no_room, has_room}
use Rattle.expr.proofs.tree.Tree.with_room.Goals as goal

pub returns-then-room-saturating_add : goal.returns-then-room-saturating_add
returns-then-room-saturating_add c = no_room _ _ _ (omega (arith, c.if-room-saturating_add.true, c.saturating_add.ensures, c.nodes.ensures))

pub returns : goal.returns
returns c = has_room _ _ _ (omega (arith, c.if-room-saturating_add.false, c.saturating_add.ensures, c.nodes.ensures, c.ranges.room))
