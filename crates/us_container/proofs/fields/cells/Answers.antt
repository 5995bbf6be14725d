use Rattle.std.proofs.Common.{◌/◌, ◌≤◌, ◌∙◌, arith, ap, length}
use Rattle.us_container.specs.Contained.{cells_of}
use Rattle.us_container.proofs.CellsRead.{cells_read}
use Rattle.us_container.proofs.fields.cells.Goals as goal

pub returns : goal.returns
returns c =
    let within : c.args.n ≤ length c.args.rest.now / 8 = omega arith in
    cells_read c.args.len c.args.n c.args.rest.now c.in_ok-cells.cells.items c.split_at.result.1.now within
    (c.in_ok-cells.ensures ∙ ap (cells_of c.args.n) c.split_at.ensures.front) c.split_at.ensures.back
