-- `atom_simplifier::admit` meets its contract. Assumes nothing.
use borrow.Author.Rules.{rules}
use Rattle.atom_simplifier.proofs.CallLaws.{admitting, room_asked}
use Rattle.atom_simplifier.proofs.admit.Goals as goal

ruleset laws = (rules, admitting)

pub returns-in_err-supported-clause-tree : goal.returns-in_err-supported-clause-tree
returns-in_err-supported-clause-tree c = search (laws, c.in_err-supported.ensures)

pub returns-in_err-read-clause-tree : goal.returns-in_err-read-clause-tree
returns-in_err-read-clause-tree c = search (laws, c.in_ok-supported.ensures, c.in_err-read.ensures)

pub returns-in_err-tree-clause-tree : goal.returns-in_err-tree-clause-tree
returns-in_err-tree-clause-tree c =
    let asks = room_asked c.args.words.now _ c.args.room _ c.in_ok-supported.ensures _ c.in_ok-read.ensures in
    search (laws, asks, c.in_err-tree.ensures)

pub returns-clause-tree : goal.returns-clause-tree
returns-clause-tree c =
    let asks = room_asked c.args.words.now _ c.args.room _ c.in_ok-supported.ensures _ c.in_ok-read.ensures in
    search (laws, asks, c.in_ok-tree.ensures)

pub returns-clause-width : goal.returns-clause-width
returns-clause-width c = search (laws, c.in_ok-supported.ensures)
