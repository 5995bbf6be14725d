use Rattle.std.proofs.Common.{◌||◌, sym, ap, refl, ◌∙◌}
use Rattle.std.specs.List.{list_any}
use Rattle.us_format.specs.Declaration.{query_of}
use Rattle.us_judge.specs.Views.{plain_part}
use Rattle.us_judge.specs.Kinds.{knows_one}
use Rattle.us_judge.proofs.Knowing.{tells-is}
use Rattle.us_judge.proofs.kinds.tells.Goals as goal

pub returns-else-knows_indices : goal.returns-else-knows_indices
returns-else-knows_indices c =
    c.knows_some_query.ensures ∙ ap (λ qs. list_any (λ q. knows_one c.args.set.now (query_of q)) qs) c.as_slice.ensures
    ∙ ap (λ b. b || list_any (λ q. knows_one c.args.set.now (query_of q)) c.args.part.now.queries) (sym c.if-knows_indices.false ∙ c.knows_indices.ensures)
    ∙ tells-is (plain_part c.args.part.now) c.args.level c.args.set.now c.args.part.now.queries refl c.requires
