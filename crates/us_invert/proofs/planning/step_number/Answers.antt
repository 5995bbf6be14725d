use Rattle.std.proofs.Common.{◌<◌, length, sym, subst, ◌∙◌, arith, ℕ, Option, None}
use Rattle.std.proofs.lemmas.List.{get_or_default}
use Rattle.us_known.specs.Table.{tree_of, trees}
use Rattle.us_invert.specs.Made.{trees_at, IsStepNumber}
use Rattle.us_known.proofs.NodeTrees.{number-of-node}
use Rattle.us_invert.proofs.Ending.{number-absent, number-there}
use Rattle.us_invert.proofs.planning.step_number.Goals as goal

pub returns-in_err-n : goal.returns-in_err-n
returns-in_err-n c =
    subst (λ (o : Option ℕ). IsStepNumber (trees_at c.args.nodes.now c.args.making.now.made.items) (tree_of (trees c.args.nodes.now) c.args.leaf) o) (sym c.from_residual.ensures)
    (number-absent c.args.nodes.now c.requires.table c.args.making.now.made.items c.args.making.now.steps.items c.args.making.now.numbers.items c.requires.making c.args.leaf c.requires.leaf c.in_err-n.ensures.absent)

pub index-requires : goal.index-requires
index-requires c =
    let l : c.in_ok-n.n < length c.args.nodes.now = (number-of-node c.args.nodes.now c.requires.table c.in_ok-n.n c.args.leaf c.in_ok-n.ensures.found).below in
    omega (arith, l, c.requires.making.same_length, c.args.making.now.numbers.ok.0)

pub returns : goal.returns
returns c =
    let l : c.in_ok-n.n < length c.args.nodes.now = (number-of-node c.args.nodes.now c.requires.table c.in_ok-n.n c.args.leaf c.in_ok-n.ensures.found).below in
    subst (λ (o : Option ℕ). IsStepNumber (trees_at c.args.nodes.now c.args.making.now.made.items) (tree_of (trees c.args.nodes.now) c.args.leaf) o)
    (get_or_default c.args.making.now.numbers.items c.in_ok-n.n None c.index.result.now (omega (arith, l, c.requires.making.same_length)) ∙ sym c.index.ensures)
    (number-there c.args.nodes.now c.requires.table c.args.making.now.made.items c.args.making.now.steps.items c.args.making.now.numbers.items c.requires.making c.args.leaf c.requires.leaf c.in_ok-n.n c.in_ok-n.ensures.found)
