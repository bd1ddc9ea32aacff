-- `expr::check_tree` meets its contract. Assumes nothing.
use borrow.Author.Rules.{rules}
use Rattle.expr.proofs.TreeLaws.{count_refused, tree_refused, left_over, all_read, words_fit}
use Rattle.expr.proofs.check_tree.Goals as goal

ruleset laws = (rules, count_refused, tree_refused, left_over, all_read, words_fit)

pub returns-then-not-word_count_ok : goal.returns-then-not-word_count_ok
returns-then-not-word_count_ok c = search laws

pub returns-in_err-m : goal.returns-in_err-m
returns-in_err-m c = search (laws, c.in_err-m.ensures)

pub overflow_mul-m : goal.overflow_mul-m
overflow_mul-m c = search (laws, c.in_ok-m.ensures)

pub returns-then-m-n : goal.returns-then-m-n
returns-then-m-n c = search (laws, c.in_ok-m.ensures)

pub returns : goal.returns
returns c = search (laws, c.in_ok-m.ensures)
