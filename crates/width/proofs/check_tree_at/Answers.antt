-- `width::check_tree_at` meets its contract. Assumes nothing.
use borrow.Author.Rules.{rules}
use Rattle.width.proofs.CheckLaws.{not_checked, words_checked}
use Rattle.width.proofs.check_tree_at.Goals as goal

pub returns-in_err-try_from : goal.returns-in_err-try_from
returns-in_err-try_from c =
    let stays = not_checked _ c.args.words.now _ c.in_err-try_from.ensures in
    search (rules, stays)

pub returns : goal.returns
returns c = words_checked _ c.args.words.now _ c.in_ok-try_from.ensures _ c.check_tree.ensures
