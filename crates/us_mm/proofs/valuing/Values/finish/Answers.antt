use Rattle.std.proofs.Common.{arith, sym, ap, Ok, subst, ◌∙◌}
use Rattle.us_mm.specs.Known.{HasValues}
use Rattle.us_mm.proofs.KnowsLemmas.{values_missing, values_end}
use Rattle.us_mm.proofs.valuing.Values.finish.Goals as goal

pub returns-then-found-wanted : goal.returns-then-found-wanted
returns-then-found-wanted c = λ ls h.
    rw (c.places-wanted.ensures, c.len-found.ensures, c.self.inside.cells.ok.0) (values_missing _ ls (subst (λ v. HasValues v ls) (sym c.self.view_is) h) (omega (arith, c.len-found.ensures, c.places-wanted.ensures, c.if-found-wanted.true, c.self.inside.cells.ok.0)))

pub returns : goal.returns
returns c = λ ls h.
    values_end _ ls (subst (λ v. HasValues v ls) (sym c.self.view_is) h) (omega (arith, c.len-found.ensures, c.places-wanted.ensures, c.if-found-wanted.false, c.self.inside.cells.ok.0)) ∙ ap Ok (sym c.new.ensures)
