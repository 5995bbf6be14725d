use Rattle.std.proofs.Common.{◌≡◌, ◌<◌, length, map, sym, ap, ◌∙◌, ◌++◌, arith}
use Rattle.us_format.specs.Lists.{cell, nth}
use Rattle.us_layout.proofs.Interleaved.{rows_up_to, rows_up_to_none, rows_up_to_more, rows_up_to_all, long-enough, row-of_slices}
use Rattle.us_layout.proofs.interleaving.interleave_slices.Goals as goal

pub push_row-requires : goal.push_row-requires
push_row-requires c =
    let below : c.loop-x.x < length (nth (map (λ column. column.now) c.args.columns.now) 0) = omega (arith, c.row_count-rows.ensures) in
    long-enough c.args.columns.now c.loop-x.x c.requires below

pub loop-x-init : goal.loop-x-init
loop-x-init c = c.in_ok-cells.ensures.items ∙ sym (rows_up_to_none (map (λ column. column.now) c.args.columns.now))

pub loop-x-preserved : goal.loop-x-preserved
loop-x-preserved c =
    let columns = map (λ column. column.now) c.args.columns.now in
    c.in_ok-push_row.ensures ∙ ap (λ l. c.loop-x.cells.items ++ l) (row-of_slices c.args.columns.now c.loop-x.x)
    ∙ ap (λ l. l ++ map (λ column. cell column c.loop-x.x) columns) c.loop-x.invariant ∙ sym (rows_up_to_more columns c.loop-x.x)

pub returns : goal.returns
returns c =
    let columns = map (λ column. column.now) c.args.columns.now in
    let all : c.loop-x.x ≡ length (nth (map (λ column. column.now) c.args.columns.now) 0) = omega (arith, c.row_count-rows.ensures) in
    c.loop-x.invariant ∙ ap (rows_up_to columns) all ∙ rows_up_to_all columns c.requires
