use Rattle.std.specs.Prelude.{All}
use Rattle.std.proofs.Common.{List, length, map, sym, ap, subst, arith}
use Rattle.us_expr.specs.declared.queries.Cond.{Cond}
use Rattle.us_expr.specs.declared.queries.Query.{Query as QueryCode}
use Rattle.us_format.specs.Declaration.{query_of}
use Rattle.us_gen_counting.specs.Rooms.{IsCountable}
use Rattle.us_gen_queries.proofs.Meanings.{codes_within}
use Rattle.us_gen_queries.proofs.generators.select_split.Goals as goal

pub select_list-requires-clause-within : goal.select_list-requires-clause-within
select_list-requires-clause-within c = codes_within c.as_slice-queries.result.now (subst (λ (qs : List QueryCode). All IsCountable (map query_of qs)) (sym c.as_slice-queries.ensures) c.requires.countable)

pub select_list-requires-clause-room : goal.select_list-requires-clause-room
select_list-requires-clause-room c =
    omega (arith, ap (λ (qs : List QueryCode). length qs) c.as_slice-queries.ensures, ap (λ (xs : List Cond). length xs) c.as_slice-conds.ensures, c.requires.queries, c.requires.conds, c.requires.room)
