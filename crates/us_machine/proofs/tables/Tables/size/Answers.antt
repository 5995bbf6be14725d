use Rattle.std.proofs.Common.{ap, sym, ◌∙◌, length, List, ℤ}
use Rattle.us_code.specs.Run.{size_of}
use Rattle.us_code.specs.declared.program.Dim.{Dim}
use Rattle.us_machine.specs.Tables.{env_of}
use Rattle.us_machine.proofs.Sources.{source_is}
use Rattle.us_machine.proofs.tables.Tables.size.Goals as goal

pub returns-in-Len-clause-value : goal.returns-in-Len-clause-value
returns-in-Len-clause-value c =
    ap (λ (xs : List ℤ). length xs) (c.list.ensures ∙ sym (source_is c.args.source.now c.in-Len.k))
    ∙ sym (ap (λ (d : Dim). size_of (env_of c.args.self.now c.args.source.now) d) c.in-Len.is)
