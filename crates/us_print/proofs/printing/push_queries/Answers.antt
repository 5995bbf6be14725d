use Rattle.std.proofs.Common.{◌++◌, ap}
use Rattle.us_print.specs.Canon.{line, query_text}
use Rattle.us_decl.specs.Declares.{Query}
use Rattle.us_decl.specs.Views.{query_view}
use Rattle.us_print.proofs.Printed.{flat_map-map}
use Rattle.us_print.proofs.printing.push_queries.Goals as goal

pub loop-query-init : goal.loop-query-init
loop-query-init c = ap (λ w. c.args.out.now.items ++ w) (flat_map-map (λ (q : Query). line c.args.depth (query_text c.args.names.now q)) query_view c.args.queries.now)
