use Rattle.std.proofs.Common.{◌++◌, ◌∙◌, ap, sym, codes}
use Rattle.std.specs.Fmt.{decimal}
use Rattle.us_expr.specs.Tree.{tree}
use Rattle.us_print.specs.Canon.{comma, name_text, asked_text, query_text}
use Rattle.us_decl.specs.Views.{query_view}
use Rattle.us_print.proofs.Printed.{joined, five, on_ok}
use Rattle.us_print.proofs.printing.push_query.Goals as goal

pub returns-in-Reorder : goal.returns-in-Reorder
returns-in-Reorder c =
    let out = c.args.out.now.items in
    let ns = c.args.names.now in
    on_ok c.push_asked-in-Reorder.result (λ e.
    joined out c.extend_from_slice.new.self.items c.push_asked-in-Reorder.new.out.items (codes "let ") (asked_text ns c.in-Reorder.var (codes " = reorder(") (tree c.in-Reorder.arg)) c.in_ok-extend_from_slice.ensures.items e
    ∙ ap (λ q. out ++ query_text ns (query_view q)) (sym c.in-Reorder.is)) c.push_asked-in-Reorder.ensures

pub returns-in_ok-push_asked-in-Schedule : goal.returns-in_ok-push_asked-in-Schedule
returns-in_ok-push_asked-in-Schedule c =
    let out = c.args.out.now.items in
    let ns = c.args.names.now in
    on_ok c.push_lanes.result (λ e.
    five out c.extend_from_slice.new.self.items c.push_name.new.out.items c.extend_from_slice-in-Schedule.new.self.items c.push_asked-in-Schedule.new.out.items c.push_lanes.new.out.items
    (codes "let ") (name_text ns c.in-Schedule.lane) comma (asked_text ns c.in-Schedule.slot (codes " = schedule(") (tree c.in-Schedule.arg)) (codes " into " ++ decimal c.in-Schedule.lanes)
    c.in_ok-extend_from_slice.ensures.items c.in_ok-push_name-in-Schedule.ensures c.in_ok-extend_from_slice-in-Schedule.ensures.items c.in_ok-push_asked-in-Schedule.ensures e
    ∙ ap (λ q. out ++ query_text ns (query_view q)) (sym c.in-Schedule.is)) c.push_lanes.ensures
