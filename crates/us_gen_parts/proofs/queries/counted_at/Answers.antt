use Rattle.std.proofs.Common.{List, map, ap₂, ◌∙◌}
use Rattle.us_expr.specs.Tree.{Tree}
use Rattle.us_expr.specs.declared.queries.Query.{Query}
use Rattle.us_format.specs.Declaration.{query_of}
use Rattle.us_gen_places.specs.Places.{counted_by}
use Rattle.us_gen_parts.proofs.queries.counted_at.Goals as goal

pub returns-clause-is : goal.returns-clause-is
returns-clause-is c =
    c.counted_by.ensures.is ∙ ap₂ (λ (qs : List Query) (e : Tree). counted_by (map query_of qs) e) c.as_slice.ensures c.expression_of.ensures
