use Rattle.std.proofs.Common.{◌≡◌, ℕ, List, slice_get, Some, ap, sym, ◌∙◌, subst, ◌++◌, ◌∷◌, []}
use Rattle.us_known.specs.declared.table.Node.{Node}
use Rattle.us_known.specs.Table.{tree_of, trees, IsTable, IsNumberOf, IsNoNode}
use Rattle.us_known.proofs.NodeTrees.{number-of-node, at-has, added-old, table-more, trees-more, last-number}
use Rattle.us_known.proofs.table.add.Goals as goal

there : (c : goal.In-Some) → IsNumberOf c.args.nodes.now.items c.in-Some.n (tree_of (trees c.args.nodes.now.items) c.args.node)
there c =
    number-of-node c.args.nodes.now.items c.requires.table c.in-Some.n c.args.node (subst (λ (l : List Node). slice_get l c.in-Some.n ≡ Some c.args.node) c.deref.ensures.value c.in-Some.ensures.found)

pub returns-in-Some-clause-trees : goal.returns-in-Some-clause-trees
returns-in-Some-clause-trees c =
    let h = at-has c.args.nodes.now.items c.requires.table c.in-Some.n (there c).below in
    added-old _ _ (rw (there c).is at h)

pub returns-in-Some-clause-number : goal.returns-in-Some-clause-number
returns-in-Some-clause-number c = there c

none : (c : goal.In_ok-push) → IsNoNode c.args.nodes.now.items c.args.node
none c = subst (λ (l : List Node). IsNoNode l c.args.node) c.deref.ensures.value c.in_default.ensures.absent

pub returns-clause-table : goal.returns-clause-table
returns-clause-table c =
    subst (λ (l : List Node). IsTable l) (sym c.in_ok-push.ensures.items) (table-more c.args.nodes.now.items c.args.node c.requires.table c.requires.below (none c))

pub returns-clause-trees : goal.returns-clause-trees
returns-clause-trees c = ap trees c.in_ok-push.ensures.items ∙ trees-more c.args.nodes.now.items c.args.node c.requires.table c.requires.below (none c)

pub returns-clause-number : goal.returns-clause-number
returns-clause-number c =
    rw (c.in_ok-push.ensures.items, c.len-n.ensures)
    (subst (λ (n : ℕ). IsNumberOf (c.args.nodes.now.items ++ c.args.node ∷ []) n (tree_of (trees c.args.nodes.now.items) c.args.node)) (sym c.args.nodes.now.ok.0) (last-number c.args.nodes.now.items c.args.node))
