use Rattle.std.proofs.Common.{◌≡◌, ℕ, length, subst, sym, ap, ◌∙◌, arith}
use Rattle.us_expr.specs.Tree.{tree}
use Rattle.us_format.specs.Lists.{join}
use Rattle.us_format.specs.Known.{sub_expressions, add_all}
use Rattle.us_known.specs.Table.{trees}
use Rattle.us_known.proofs.Loops.{IsInserted, inserted-more, inserted-all, map-map}
use Rattle.us_known.proofs.known_set.insert_levels.Goals as goal

pub loop-level-preserved : goal.loop-level-preserved
loop-level-preserved c =
    inserted-more (λ e. sub_expressions (tree e)) c.args.nodes.now.items c.loop-level.nodes.items c.insert.new.nodes.items c.args.levels.now c.loop-level.level-index c.level-item.result c.loop-level.invariant c.loop-level-test.true c.level-item.is
    c.in_ok-insert.ensures.table c.in_ok-insert.ensures.trees

pub returns-clause-trees : goal.returns-clause-trees
returns-clause-trees c =
    let at : c.loop-level.level-index ≡ length c.args.levels.now = omega (arith, c.loop-level-test.false, c.loop-level.auto.level-index-end) in
    inserted-all (λ e. sub_expressions (tree e)) c.args.nodes.now.items c.loop-level.nodes.items c.args.levels.now
    (subst (λ (k : ℕ). IsInserted (λ e. sub_expressions (tree e)) c.args.nodes.now.items c.loop-level.nodes.items c.args.levels.now k) at c.loop-level.invariant)
    ∙ ap (λ l. add_all (trees c.args.nodes.now.items) (join l)) (sym (map-map sub_expressions tree c.args.levels.now))
