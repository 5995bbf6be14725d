use Rattle.std.proofs.Common.{◌++◌, ◌∙◌, ap}
use Rattle.us_decl.specs.Views.{part_view}
use Rattle.us_print.specs.Canon.{block_lines}
use Rattle.us_print.proofs.Printed.{more_blocks, all_blocks}
use Rattle.us_print.proofs.printing.push_blocks.Goals as goal

pub loop-place-preserved : goal.loop-place-preserved
loop-place-preserved c =
    let part = c.index-parts-place.result in
    let opened = c.push_opening.new.out.items in
    more_blocks part_view c.args.names.now c.args.conds.now c.args.parts.now c.loop-place.place part c.loop-place.out.items opened c.push_block.new.out.items _ c.loop-place-test.true c.loop-place.invariant c.in_ok-push_opening.ensures
    (c.in_ok-push_block.ensures ∙ ap (λ p. opened ++ block_lines (part_view p)) c.index-parts-place.is)

pub returns : goal.returns
returns c = all_blocks part_view c.args.names.now c.args.conds.now c.args.parts.now c.loop-place.place c.loop-place.out.items _ c.loop-place-test.false c.loop-place.invariant
