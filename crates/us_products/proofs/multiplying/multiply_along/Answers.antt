use Rattle.std.proofs.Common.{◌≡◌, ◌∙◌, length, refl, sym, ap}
use Rattle.std.proofs.lemmas.Result.{IfErr-weaker, on_ok_weaker}
use Rattle.us_inputs.specs.Views.{contained_of}
use Rattle.us_products.proofs.MultiplyLemmas.{along_is, cells_end, sizes_end, sizes_within}
use Rattle.us_products.proofs.multiplying.multiply_along.Goals as goal

pub multiply_last-requires-clause-rows : goal.multiply_last-requires-clause-rows
multiply_last-requires-clause-rows c = c.requires.rows ∙ ap (λ m. m.cols) (sym c.in-Ok.ensures.along.matrix)

pub returns-in-Ok-clause-made : goal.returns-in-Ok-clause-made
returns-in-Ok-clause-made c =
    along_is c.args.vector c.args.listed c.args.held.matrix (contained_of c.args.held) c.args.formats.now c.go_along.new.journey.held c.go_along.new.journey.lines.items
    c.go_along.new.journey.listing.items c.args.x.now c.multiply_last.result c.in-Ok.ensures.along c.multiply_last.ensures.made

pub returns-in-Ok-clause-within : goal.returns-in-Ok-clause-within
returns-in-Ok-clause-within c =
    on_ok_weaker c.multiply_last.result
    (λ h. sizes_within c.args.held.matrix c.args.formats.now c.args.x.now c.go_along.new.journey.held.matrix (length c.args.formats.now) c.in-Ok.ensures.within c.in-Ok.ensures.along.matrix refl h)
    c.multiply_last.ensures.within

pub returns-in-Ok-clause-plain : goal.returns-in-Ok-clause-plain
returns-in-Ok-clause-plain c =
    IfErr-weaker c.multiply_last.result _ _
    (λ s h. cells_end c.args.held.matrix c.args.formats.now c.args.x.now c.go_along.new.journey.held.matrix (length c.args.formats.now) s c.in-Ok.ensures.within c.in-Ok.ensures.along.matrix refl h)
    c.multiply_last.ensures.plain

pub returns-in-Err-clause-plain : goal.returns-in-Err-clause-plain
returns-in-Err-clause-plain c = sizes_end c.args.held.matrix c.args.formats.now c.args.x.now c.in-Err.status c.in-Err.ensures.plain
