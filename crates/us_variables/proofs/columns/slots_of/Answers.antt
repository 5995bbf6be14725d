use Rattle.std.proofs.Common.{◌∙◌, ap, pos, arith}
use Rattle.us_format.specs.Matrix.{index_at}
use Rattle.us_query.specs.Lanes.{slot_in}
use Rattle.us_query.proofs.Tallies.{inside}
use Rattle.us_variables.proofs.Values.{column-end, column-more}
use Rattle.us_variables.proofs.columns.slots_of.Goals as goal

pub slot-requires : goal.slot-requires
slot-requires c =
    omega (
      arith,
      c.index_of.ensures,
      inside c.args.axis c.args.matrix.now c.entries-entries.result.now c.args.table.now.count c.entries-entries.ensures.matrix c.entries-entries.ensures.value c.requires c.loop-t.t-index
          (record { i = 0; j = 0; v = pos 0 }) c.loop-t-test.true,
    )

pub loop-t-preserved : goal.loop-t-preserved
loop-t-preserved c =
    column-more (λ x. slot_in c.args.table.now.lanes (index_at c.args.axis x)) c.entries-entries.result.now c.loop-t.t-index (record { i = 0; j = 0; v = pos 0 }) c.loop-t.column.items c.push.new.self.items c.slot.result
    c.loop-t-test.true c.loop-t.invariant c.in_ok-push.ensures.items (c.slot.ensures ∙ ap (slot_in c.args.table.now.lanes) c.index_of.ensures)

pub returns : goal.returns
returns c =
    column-end (λ x. slot_in c.args.table.now.lanes (index_at c.args.axis x)) c.args.matrix.now c.entries-entries.result.now c.loop-t.t-index c.loop-t.column.items c.loop-t-test.false c.entries-entries.ensures.value
    c.loop-t.invariant
