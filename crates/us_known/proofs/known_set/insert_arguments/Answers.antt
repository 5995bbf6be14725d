use Rattle.std.proofs.Common.{◌≡◌, ℕ, length, subst, sym, ap, ◌∙◌, arith}
use Rattle.us_format.specs.Lists.{join}
use Rattle.us_format.specs.Declaration.{query_of, argument}
use Rattle.us_format.specs.Known.{sub_expressions, add_all}
use Rattle.us_known.specs.Table.{trees}
use Rattle.us_known.proofs.Loops.{IsInserted, inserted-more, inserted-all, map-map}
use Rattle.us_known.proofs.known_set.insert_arguments.Goals as goal

pub loop-query-preserved : goal.loop-query-preserved
loop-query-preserved c =
    inserted-more (λ q. sub_expressions (argument (query_of q))) c.args.nodes.now.items c.loop-query.nodes.items c.insert_argument.new.nodes.items c.args.queries.now c.loop-query.query-index c.query-item.result c.loop-query.invariant
    c.loop-query-test.true c.query-item.is c.in_ok-insert_argument.ensures.table c.in_ok-insert_argument.ensures.trees

pub returns-clause-trees : goal.returns-clause-trees
returns-clause-trees c =
    let at : c.loop-query.query-index ≡ length c.args.queries.now = omega (arith, c.loop-query-test.false, c.loop-query.auto.query-index-end) in
    inserted-all (λ q. sub_expressions (argument (query_of q))) c.args.nodes.now.items c.loop-query.nodes.items c.args.queries.now
    (subst (λ (k : ℕ). IsInserted (λ q. sub_expressions (argument (query_of q))) c.args.nodes.now.items c.loop-query.nodes.items c.args.queries.now k) at c.loop-query.invariant)
    ∙ ap (λ l. add_all (trees c.args.nodes.now.items) (join l)) (sym (map-map (λ q. sub_expressions (argument q)) query_of c.args.queries.now))
