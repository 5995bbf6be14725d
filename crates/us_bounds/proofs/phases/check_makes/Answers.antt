use Rattle.us_code.specs.declared.program.Make.{Make}
use Rattle.us_code.specs.declared.program.Dim.TheVariants as dim
use Rattle.us_code.specs.declared.program.CellKind.TheVariants as kind
use Rattle.us_bounds.specs.Seen.{context_of}
use Rattle.us_bounds.proofs.Phasing.{makes_start, makes_room, makes_more, makes_stop, makes_end}
use Rattle.us_bounds.proofs.phases.check_makes.Goals as goal

abbrev first : Make
first = record { buf = 0; len = dim.Number 0; cell = kind.Word }

pub loop-make-init : goal.loop-make-init
loop-make-init c =
    makes_start (context_of c.args.table.now) c.args.makes.now

pub check_make-requires : goal.check_make-requires
check_make-requires c =
    makes_room c.loop-make.next c.args.makes.now c.loop-make.make-index c.loop-make-test.true c.loop-make.invariant c.requires

pub returns-in_err-next : goal.returns-in_err-next
returns-in_err-next c =
    makes_stop c.args.makes.now c.loop-make.make-index c.loop-make-test.true (context_of c.loop-make.table) c.loop-make.next first c.loop-make.invariant _ _ _ c.from_residual.ensures.1 c.in_err-next.ensures

pub loop-make-preserved : goal.loop-make-preserved
loop-make-preserved c =
    makes_more c.args.makes.now c.loop-make.make-index c.loop-make-test.true (context_of c.loop-make.table) c.loop-make.next first c.loop-make.invariant _ _ c.in_ok-next.ensures

pub returns : goal.returns
returns c =
    makes_end c.args.makes.now c.loop-make.make-index c.loop-make-test.false c.loop-make.invariant
