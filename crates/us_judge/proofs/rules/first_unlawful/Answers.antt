use Rattle.std.proofs.Common.{◌∙◌, sym, map}
use Rattle.us_expr.specs.Tree.{tree}
use Rattle.us_format.specs.Declaration.{query_of}
use Rattle.us_judge.specs.Variables.{is_lawful_level}
use Rattle.us_judge.proofs.Reaching.{next_item, failing_item}
use Rattle.us_judge.proofs.rules.first_unlawful.Goals as goal

pub returns-then-not-is_lawful_level : goal.returns-then-not-is_lawful_level
returns-then-not-is_lawful_level c =
    failing_item tree (λ _ e. is_lawful_level c.args.class (map query_of c.args.queries.now) e) c.args.first c.args.levels.now c.loop-k.k c.index-levels-k.result c.loop-k-test.true c.index-levels-k.is (sym c.is_lawful_level.ensures ∙ c.if-not-is_lawful_level.true) c.loop-k.invariant

pub loop-k-preserved : goal.loop-k-preserved
loop-k-preserved c = next_item tree (λ _ e. is_lawful_level c.args.class (map query_of c.args.queries.now) e) c.args.first c.args.levels.now c.loop-k.k c.index-levels-k.result c.loop-k-test.true c.index-levels-k.is (sym c.is_lawful_level.ensures ∙ c.if-not-is_lawful_level.false) c.loop-k.invariant
