use Rattle.us_code_print.specs.ReadBack.{NamedNumbers}
use Rattle.us_unit.proofs.Named.{no_more}
use Rattle.us_unit.proofs.names.numbers_are_small.Goals as goal

pub loop-number-init : goal.loop-number-init
loop-number-init c = λ h. h

pub returns : goal.returns
returns c = no_more NamedNumbers c.args.numbers.now c.loop-number.number-index c.loop-number-test.false tt c.loop-number.invariant
