use Rattle.std.proofs.Common.{arith}
use Rattle.us_machine.proofs.Making.{made, cell_sized}
use Rattle.us_machine.proofs.makes.make_one.Goals as goal

pub width-width-requires : goal.width-width-requires
width-width-requires c =
    let y = c.requires in
    cell_sized c.args.tables.now c.args.source.now y.point.context c.args.make.buf c.args.make.len c.args.make.cell y.at.sized y.fits y.typed.2

pub returns-clause-makes : goal.returns-clause-makes
returns-clause-makes c = λ p at typed.
    made c.args.tables.now c.add_list.new.self c.args.source.now c.args.steps.now c.charge.new.steps c.args.make record { len = c.size-len.result; width = c.width-width.result } p at
    c.in_ok-add_list.ensures.plan c.in_ok-add_list.ensures.segs c.add_list.ensures.dims.0 c.add_list.ensures.dims.1 c.add_list.ensures.dims.2 c.size-len.ensures.value (omega arith) (omega (arith, c.requires.room)) c.width-width.ensures
    typed (c.in_ok-charge.ensures.ok p.count at.shows)
