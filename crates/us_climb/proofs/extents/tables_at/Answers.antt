use Rattle.std.proofs.Common.{◌≡◌, ℕ, ◌+◌, List, ◌++◌, map, ap, ap₂, ◌∙◌}
use Rattle.std.specs.List.{count_by}
use Rattle.us_format.specs.Declaration.{Query, has_extent, query_of}
use Rattle.us_format.specs.Reading.{tables_in}
use Rattle.us_invert.specs.Recovery.{tables_of}
use Rattle.us_judge.specs.Views.{plain_part}
use Rattle.us_climb.specs.QueryTables.{tables_from}
use Rattle.us_climb.proofs.BuffersFit.{tables-are}
use Rattle.us_climb.proofs.extents.tables_at.Goals as goal

pub returns : goal.returns
returns c bufs few =
    let qs : map query_of c.as_slice-queries.result.now ≡ (plain_part c.args.part.now).queries = ap (map query_of) c.as_slice-queries.ensures in
    ap (tables_of bufs) (c.push_tables.ensures ∙ ap (λ (at : List ℕ). at ++ tables_from (c.args.first + c.extent_count.result) (map query_of c.as_slice-queries.result.now)) c.new-at.ensures)
    ∙ tables-are bufs few (c.args.first + c.extent_count.result) (map query_of c.as_slice-queries.result.now)
    ∙ ap₂ (λ (n : ℕ) (xs : List Query). tables_in (c.args.first + n) bufs xs) (c.extent_count.ensures.count ∙ ap (count_by has_extent) qs) qs
