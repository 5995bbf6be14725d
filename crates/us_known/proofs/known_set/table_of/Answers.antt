use Rattle.std.proofs.Common.{[], ◌∷◌, ◌++◌, map, sym, ap, ◌∙◌}
use Rattle.us_expr.specs.Tree.{tree, RowIndex, ColIndex}
use Rattle.us_format.specs.Lists.{join}
use Rattle.us_format.specs.Declaration.{query_of, argument}
use Rattle.us_format.specs.Known.{add_all, sub_expressions}
use Rattle.us_known.specs.Table.{trees}
use Rattle.us_known.proofs.NodeTrees.{add_all-append}
use Rattle.us_known.proofs.known_set.table_of.Goals as goal

pub returns-clause-trees : goal.returns-clause-trees
returns-clause-trees c =
    let levels = join (map sub_expressions (map tree c.args.levels.now)) in
    let arguments = join (map (λ q. sub_expressions (argument q)) (map query_of c.args.queries.now)) in
    c.in_ok-add-2.ensures.trees ∙ ap (λ l. add_all l (ColIndex ∷ [])) c.in_ok-add.ensures.trees ∙ ap (λ l. add_all (add_all l (RowIndex ∷ [])) (ColIndex ∷ [])) c.in_ok-insert_arguments.ensures.trees
    ∙ ap (λ l. add_all (add_all (add_all l arguments) (RowIndex ∷ [])) (ColIndex ∷ [])) (c.in_ok-insert_levels.ensures.trees ∙ ap (λ l. add_all (trees l) levels) c.new-nodes.ensures.items)
    ∙ sym (add_all-append [] levels (arguments ++ RowIndex ∷ ColIndex ∷ []) ∙ add_all-append (add_all [] levels) arguments (RowIndex ∷ ColIndex ∷ []))
