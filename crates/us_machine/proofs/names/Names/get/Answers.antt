use Rattle.std.proofs.Common.{arith, ap, ◌∙◌, Option, ℕ}
use Rattle.std.specs.Option.{unwrap_or}
use Rattle.us_machine.proofs.Held.{held_low, held_high}
use Rattle.us_machine.proofs.names.Names.get.Goals as goal

pub returns-then-at-len : goal.returns-then-at-len
returns-then-at-len c = held_low c.args.self.now c.args.name c.index.result.now (omega arith) c.index.ensures

pub returns-else-at-len : goal.returns-else-at-len
returns-else-at-len c = held_high c.args.self.now c.args.name c.unwrap_or.result (omega arith) (c.unwrap_or.ensures ∙ ap (λ (o : Option ℕ). unwrap_or o 0) (c.copied.ensures ∙ c.get.ensures.value))
