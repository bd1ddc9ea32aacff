-- `expr::check_at` meets its contract. The measure is the number of levels left. Assumes nothing.
use borrow.Author.Rules.{rules}
use Rattle.expr.proofs.CheckLaws.{too_short, node_refused, one_level, two_level, leaf_case, one_counted, one_refused, left_refused, right_refused, two_counted, level_falls, right_within, one_fits, right_fits, right_scaled, both_fit, two_fit}
use Rattle.expr.proofs.+check_at.Goals as goal

ruleset laws = (rules, too_short, node_refused, one_level, two_level, leaf_case, one_counted, one_refused, left_refused, right_refused, two_counted, level_falls, right_within, one_fits, right_fits, right_scaled, both_fit, two_fit)

pub returns-then-ws-lt2 : goal.returns-then-ws-lt2
returns-then-ws-lt2 t c = search laws

pub returns-in_err-arity : goal.returns-in_err-arity
returns-in_err-arity t c = search (laws, c.in_err-arity.ensures)

pub overflow_sub-levels : goal.overflow_sub-levels
overflow_sub-levels t c = search (laws, c.in_ok-arity.ensures)

pub check_at-requires : goal.check_at-requires
check_at-requires t c = search (laws, c.in_ok-arity.ensures)

pub returns-in_err-n-in-One : goal.returns-in_err-n-in-One
returns-in_err-n-in-One t c = search (laws, c.in_ok-arity.ensures, c.in_err-n-in-One.ensures)

pub overflow_add-result : goal.overflow_add-result
overflow_add-result t c = search (laws, c.in_ok-n-in-One.ensures)

pub overflow_sub-below : goal.overflow_sub-below
overflow_sub-below t c = search (laws, c.in_ok-arity.ensures)

pub check_at-requires-in-Two : goal.check_at-requires-in-Two
check_at-requires-in-Two t c = search (laws, c.in_ok-arity.ensures)

pub returns-in_err-n-in-Two : goal.returns-in_err-n-in-Two
returns-in_err-n-in-Two t c = search (laws, c.in_ok-arity.ensures, c.in_err-n-in-Two.ensures)

pub overflow_mul-right : goal.overflow_mul-right
overflow_mul-right t c = search (laws, c.in_ok-n-in-Two.ensures)

pub offset_bounds-rest-right : goal.offset_bounds-rest-right
offset_bounds-rest-right t c = search (laws, c.in_ok-n-in-Two.ensures)

pub slice_bounds-check_at-count : goal.slice_bounds-check_at-count
slice_bounds-check_at-count t c = search (laws, c.in_ok-n-in-Two.ensures)

pub slice_bounds-check_at-start : goal.slice_bounds-check_at-start
slice_bounds-check_at-start t c = search (laws, c.in_ok-n-in-Two.ensures)

pub check_at-requires-in-Two-2 : goal.check_at-requires-in-Two-2
check_at-requires-in-Two-2 t c = search (laws, c.in_ok-arity.ensures)

pub returns-in_err-m-in-Two : goal.returns-in_err-m-in-Two
returns-in_err-m-in-Two t c = search (laws, c.in_ok-arity.ensures, c.in_ok-n-in-Two.ensures, c.in_err-m-in-Two.ensures)

pub overflow_add-result-in-Two : goal.overflow_add-result-in-Two
overflow_add-result-in-Two t c = search (laws, c.in_ok-n-in-Two.ensures, c.in_ok-m-in-Two.ensures)

pub overflow_add-result-in-Two-2 : goal.overflow_add-result-in-Two-2
overflow_add-result-in-Two-2 t c = search (laws, c.in_ok-n-in-Two.ensures, c.in_ok-m-in-Two.ensures)

pub returns-in-Zero : goal.returns-in-Zero
returns-in-Zero t c = search (laws, c.in_ok-arity.ensures)

pub returns-in_ok-n-in-One : goal.returns-in_ok-n-in-One
returns-in_ok-n-in-One t c = search (laws, c.in_ok-arity.ensures, c.in_ok-n-in-One.ensures)

pub returns-in_ok-m-in-Two : goal.returns-in_ok-m-in-Two
returns-in_ok-m-in-Two t c = search (laws, c.in_ok-arity.ensures, c.in_ok-n-in-Two.ensures, c.in_ok-m-in-Two.ensures)
