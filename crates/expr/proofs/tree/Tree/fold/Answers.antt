-- `expr::tree::Tree::fold` meets its contract. Assumes nothing.
use mathlib.Core.List.{List}
use mathlib.Core.Path.{subst}
use Prim.Native.Nat.{ℕ}
use Rattle.expr.specs.Domain.{on}
use Rattle.expr.specs.DomainLaws.{on_few, few_below}
use Rattle.expr.specs.Expr.{Expr}
use Rattle.expr.specs.Front.{tree_at, Read}
use Rattle.expr.proofs.ChildLaws.{whole_front}
use Rattle.expr.proofs.FoldLaws.{read_fits}
use Rattle.expr.proofs.tree.Tree.fold.Goals as goal

pub returns : goal.returns
returns g c =
    let tree = c.args.self in
    let found : Expr → Type 0 = g.F.Fold.gives c.args.by.now c.fold_at-words.result.found in
    read_fits _ (record { tree = tree_at tree.words.now; front = whole_front _ tree.whole }) tree.short _ _ found
    (subst (λ (ws : List ℕ). Read ws c.fold_at-words.result.words (λ t. on g.F.Fold.domain t (found t))) c.over.ensures c.fold_at-words.ensures)
    (λ t few. on_few t g.F.Fold.domain (few_below t few))
