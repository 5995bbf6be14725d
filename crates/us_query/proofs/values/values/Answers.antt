use Rattle.std.proofs.Common.{List, map, pos, ap, ◌∙◌}
use Rattle.std.proofs.lemmas.List.{take_all}
use Rattle.us_expr.specs.Tree.{tree}
use Rattle.us_matrix.specs.declared.matrix.Triple.{Triple}
use Rattle.us_format.specs.Program.{plain_entries, plain_entry}
use Rattle.us_format.specs.Queries.{plain_value}
use Rattle.us_query.proofs.EntryCounts.{narrow, values-plain}
use Rattle.us_query.proofs.values.values.Goals as goal

pub value_of-requires-clause-row : goal.value_of-requires-clause-row
value_of-requires-clause-row c =
    (narrow c.args.matrix.now c.entries-entries.ensures.matrix c.entries-entries.result.now c.entries-entries.ensures.value c.loop-t.t-index (record { i = 0; j = 0; v = pos 0 }) c.loop-t-test.true).0

pub value_of-requires-clause-col : goal.value_of-requires-clause-col
value_of-requires-clause-col c =
    (narrow c.args.matrix.now c.entries-entries.ensures.matrix c.entries-entries.result.now c.entries-entries.ensures.value c.loop-t.t-index (record { i = 0; j = 0; v = pos 0 }) c.loop-t-test.true).1

pub returns-clause-values : goal.returns-clause-values
returns-clause-values c =
    let e = tree c.args.e.now in
    c.loop-t.invariant
    ∙ ap (λ (ts : List Triple). map (λ t. plain_value e (plain_entry t)) ts) (take_all c.loop-t.t-index c.entries-entries.result.now c.loop-t-test.false)
    ∙ values-plain e c.entries-entries.result.now
    ∙ ap (λ (ts : List Triple). map (plain_value e) (plain_entries ts)) c.entries-entries.ensures.value
