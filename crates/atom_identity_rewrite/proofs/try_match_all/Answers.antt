-- Each goal is a law of `CallLaws`.
use Rattle.std.proofs.Common.{rules, length}
use Rattle.atom_identity_rewrite.proofs.CallLaws.{width_no, words_no, room_no, holds_words, answered, written}
use Rattle.atom_identity_rewrite.proofs.try_match_all.Goals as goal

pub returns-in_err-width : goal.returns-in_err-width
returns-in_err-width c =
    let stays = width_no c.args.words.now _ c.args.number (length c.args.out.now) _ c.in_err-width.ensures in
    search (rules, stays)

pub returns-in_err-read : goal.returns-in_err-read
returns-in_err-read c =
    let stays = words_no c.args.words.now _ c.args.number (length c.args.out.now) _ c.in_ok-width.ensures _ c.in_err-read.ensures in
    search (rules, stays)

pub returns-in_err-node : goal.returns-in_err-node
returns-in_err-node c =
    let stays = room_no c.args.words.now _ c.args.number _ _ c.in_ok-width.ensures _ c.in_ok-read.ensures _ c.in_err-node.ensures in
    search (rules, stays)

pub hand_over-requires : goal.hand_over-requires
hand_over-requires c = search (rules, holds_words, c.in_ok-node.ensures)

pub returns : goal.returns
returns c = search (rules, answered, written, c.in_ok-width.ensures, c.in_ok-read.ensures, c.in_ok-node.ensures)
