use Rattle.us_code_print.specs.ReadBack.{NamedMakes}
use Rattle.us_unit.proofs.Named.{no_more}
use Rattle.us_unit.proofs.names.makes_are_named.Goals as goal

pub loop-make-init : goal.loop-make-init
loop-make-init c = λ h. h

pub returns : goal.returns
returns c = no_more NamedMakes c.args.makes.now c.loop-make.make-index c.loop-make-test.false tt c.loop-make.invariant
