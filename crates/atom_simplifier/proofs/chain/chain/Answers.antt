-- `atom_simplifier::chain::chain` meets its contract. Assumes nothing.
use Rattle.arith.specs.NeedLaws.{basics}
use Rattle.atom_simplifier.proofs.CountingLaws.{pairs_of}
use Rattle.atom_simplifier.proofs.ChainedLaws.{work_too_small, chain_answered, chaining}
use Rattle.atom_simplifier.proofs.chain.chain.Goals as goal

ruleset laws = (basics, chaining)

pub returns-in_err-tree : goal.returns-in_err-tree
returns-in_err-tree c = search (laws, c.in_err-tree.ensures.tree)

pub returns-in_err-tree-2 : goal.returns-in_err-tree-2
returns-in_err-tree-2 c = search (laws, work_too_small _ _ _ _ c.in_ok-tree.ensures.tree _ (pairs_of _ _ (λ n. c.fold-found.ensures)), c.in_err-tree-2.ensures)

pub build-built-requires : goal.build-built-requires
build-built-requires c = search (laws, c.in_ok-tree.ensures.tree, pairs_of _ _ (λ n. c.fold-found.ensures), c.in_ok-tree-2.ensures)

-- the law is applied by name: what is searched for is where the clearing began and how many rewrites are answered
pub returns : goal.returns
returns c =
    chain_answered _ _ _ _ c.in_ok-tree.ensures.tree _ (pairs_of _ _ (λ n. c.fold-found.ensures)) _ _ c.in_ok-tree-2.ensures _ c.over.ensures _ c.in_ok-tree.ensures.width _ _ _ _ c.build-built.ensures _ (search laws) _ (search laws) _
    (c.fill.ensures.after (λ y e. e))
