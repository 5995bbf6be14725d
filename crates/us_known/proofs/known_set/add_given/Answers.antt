use Rattle.std.proofs.Common.{List, [], ◌∷◌, map, take, subst, sym, ap, ◌∙◌}
use Rattle.std.proofs.lemmas.List.{map-append}
use Rattle.us_expr.specs.Tree.{Tree, tree}
use Rattle.us_known.specs.Table.{trees}
use Rattle.us_known.specs.Flags.{AddsGiven}
use Rattle.us_known.proofs.Loops.{take-next, adds-append}
use Rattle.us_known.proofs.known_set.add_given.Goals as goal

pub loop-e-preserved : goal.loop-e-preserved
loop-e-preserved c =
    subst (λ (l : List Tree). AddsGiven (trees c.args.nodes.now) l c.args.flags.now c.add_one.new.flags)
    (sym (map-append tree (take c.loop-e.e-index c.args.given.now) (c.e-item.result ∷ [])) ∙ ap (map tree) (sym (take-next c.args.given.now c.loop-e.e-index c.e-item.result c.loop-e-test.true c.e-item.is)))
    (adds-append (trees c.args.nodes.now) (map tree (take c.loop-e.e-index c.args.given.now)) (tree c.e-item.result ∷ []) c.args.flags.now c.loop-e.flags c.add_one.new.flags c.loop-e.invariant c.add_one.ensures)
