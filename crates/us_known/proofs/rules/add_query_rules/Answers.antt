use Rattle.std.proofs.Common.{ℕ, length, refl, sym, subst, add-one}
use Rattle.std.proofs.lemmas.Option.{slice_get_read}
use Rattle.us_known.specs.Rules.{QueryRules}
use Rattle.us_known.proofs.rules.add_query_rules.Goals as goal

pub loop-query-preserved : goal.loop-query-preserved
loop-query-preserved c =
    subst (λ (k : ℕ). QueryRules c.args.nodes.now c.args.queries.now c.args.rules.now.items k c.push_rule.new.rules.items) (sym (add-one c.loop-query.query-index)) (
      c.loop-query.rules.items,
      c.query-item.result,
      c.query_rule.result,
      c.loop-query.invariant,
      slice_get_read c.args.queries.now (length c.args.queries.now) c.loop-query.query-index c.query-item.result refl c.loop-query-test.true c.query-item.is,
      c.query_rule.ensures,
      c.in_ok-push_rule.ensures,
    )
