-- `atom_simplifier::chain::build` and `build_one` and `build_right` and `build_two` meet their contracts. Assumes nothing.
use Rattle.arith.specs.NeedLaws.{basics}
use Rattle.atom_simplifier.proofs.BuildLaws.{building, building_one, building_right, building_two}
use Rattle.atom_simplifier.proofs.chain.+build_build_one_build_right_build_two.Goals as goal

ruleset build_laws = (basics, building)

pub build-load-requires : goal.build-load-requires
build-load-requires t c = search build_laws

pub build-returns-in-Zero : goal.build-returns-in-Zero
build-returns-in-Zero t c = search build_laws

ruleset build_one_laws = (basics, building_one)

pub build_one-slice_bounds-build-count : goal.build_one-slice_bounds-build-count
build_one-slice_bounds-build-count t c = search build_one_laws

pub build_one-slice_bounds-build-start : goal.build_one-slice_bounds-build-start
build_one-slice_bounds-build-start t c = search build_one_laws

pub build_one-slice_bounds-build-count-2 : goal.build_one-slice_bounds-build-count-2
build_one-slice_bounds-build-count-2 t c = search build_one_laws

pub build_one-slice_bounds-build-start-2 : goal.build_one-slice_bounds-build-start-2
build_one-slice_bounds-build-start-2 t c = search build_one_laws

pub build_one-invariant_of-build : goal.build_one-invariant_of-build
build_one-invariant_of-build t c = record { leads = search build_one_laws; short = search build_one_laws }

pub build_one-build-child-requires : goal.build_one-build-child-requires
build_one-build-child-requires t c = search build_one_laws

pub build_one-settle_one-top-requires : goal.build_one-settle_one-top-requires
build_one-settle_one-top-requires t c = search build_one_laws

pub build_one-overflow_add-result : goal.build_one-overflow_add-result
build_one-overflow_add-result t c = search build_one_laws

pub build_one-returns : goal.build_one-returns
build_one-returns t c = search build_one_laws

ruleset build_right_laws = (basics, building_right)

pub build_right-settle_two-top-requires : goal.build_right-settle_two-top-requires
build_right-settle_two-top-requires t c = search build_right_laws

pub build_right-returns : goal.build_right-returns
build_right-returns t c = search build_right_laws

ruleset build_two_laws = (basics, building_two)

pub build_two-slice_bounds-build-count : goal.build_two-slice_bounds-build-count
build_two-slice_bounds-build-count t c = search build_two_laws

pub build_two-slice_bounds-build-start : goal.build_two-slice_bounds-build-start
build_two-slice_bounds-build-start t c = search build_two_laws

pub build_two-slice_bounds-build-count-2 : goal.build_two-slice_bounds-build-count-2
build_two-slice_bounds-build-count-2 t c = search build_two_laws

pub build_two-slice_bounds-build-start-2 : goal.build_two-slice_bounds-build-start-2
build_two-slice_bounds-build-start-2 t c = search build_two_laws

pub build_two-invariant_of-build : goal.build_two-invariant_of-build
build_two-invariant_of-build t c = record { leads = search build_two_laws; short = search build_two_laws }

pub build_two-build-left-requires : goal.build_two-build-left-requires
build_two-build-left-requires t c = search build_two_laws

pub build_two-overflow_add-from : goal.build_two-overflow_add-from
build_two-overflow_add-from t c = search build_two_laws

pub build_two-offset_bounds-ws-from : goal.build_two-offset_bounds-ws-from
build_two-offset_bounds-ws-from t c = search build_two_laws

pub build_two-slice_bounds-build_right-count : goal.build_two-slice_bounds-build_right-count
build_two-slice_bounds-build_right-count t c = search build_two_laws

pub build_two-slice_bounds-build_right-start : goal.build_two-slice_bounds-build_right-start
build_two-slice_bounds-build_right-start t c = search build_two_laws

pub build_two-invariant_of-build_right : goal.build_two-invariant_of-build_right
build_two-invariant_of-build_right t c = record { leads = search build_two_laws; short = search build_two_laws }

pub build_two-build_right-right-requires : goal.build_two-build_right-right-requires
build_two-build_right-right-requires t c = search build_two_laws

pub build_two-overflow_add-result : goal.build_two-overflow_add-result
build_two-overflow_add-result t c = search build_two_laws

pub build_two-overflow_add-result-2 : goal.build_two-overflow_add-result-2
build_two-overflow_add-result-2 t c = search build_two_laws

pub build_two-returns : goal.build_two-returns
build_two-returns t c = search build_two_laws
