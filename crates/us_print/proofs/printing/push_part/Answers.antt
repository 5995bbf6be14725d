use Rattle.std.proofs.Common.{◌++◌, ◌∙◌, ap, map}
use Rattle.us_expr.specs.Tree.{tree}
use Rattle.us_print.specs.Canon.{queries_lines, line, map_text, storage_lines}
use Rattle.us_decl.specs.Views.{query_view, part_view}
use Rattle.us_print.proofs.Printed.{three, on_ok}
use Rattle.us_print.proofs.printing.push_part.Goals as goal

pub returns : goal.returns
returns c =
    let out = c.args.out.now.items in
    let part = c.args.part.now in
    let queries = c.in_ok-push_queries.ensures ∙ ap (λ ns. out ++ queries_lines c.args.depth ns (map query_view c.as_slice.result.now)) c.as_slice-names.ensures ∙ ap (λ qs. out ++ queries_lines c.args.depth part.names (map query_view qs)) c.as_slice.ensures in
    let middle = c.push_queries.new.out.items in
    let levels = c.in_ok-push_map.ensures ∙ ap (λ ns. middle ++ line c.args.depth (map_text ns (map tree c.as_slice-2.result.now))) c.as_slice-names.ensures ∙ ap (λ es. middle ++ line c.args.depth (map_text part.names (map tree es))) c.as_slice-2.ensures in
    on_ok c.push_storage.result (three out middle c.push_map.new.out.items c.push_storage.new.out.items
    (queries_lines c.args.depth part.names (map query_view part.queries)) (line c.args.depth (map_text part.names (map tree part.levels))) (storage_lines c.args.depth (part_view part)) queries levels) c.push_storage.ensures
