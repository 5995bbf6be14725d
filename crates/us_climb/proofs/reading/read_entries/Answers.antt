use Rattle.std.proofs.Common.{◌≡◌, ℕ, ◌<◌, ◌+◌, ◌-◌, List, length, map, sym, subst, ap, ◌∙◌, arith}
use Rattle.us_format.specs.Program.{plain_shape}
use Rattle.us_judge.specs.Views.{declaration_of}
use Rattle.us_climb.specs.declared.found.Found.{Found}
use Rattle.us_climb.specs.Entries.{plain_found, prepend, read_part}
use Rattle.us_climb.proofs.ReadSteps.{IsReadBefore, parts-none, parts-more, parts-failed, parts-end}
use Rattle.us_climb.proofs.reading.read_entries.Goals as goal

pub loop-part-init : goal.loop-part-init
loop-part-init c =
    subst (λ (found : List Found). IsReadBefore (plain_shape c.args.shape) (declaration_of c.args.format.now) c.args.buffers.now 0 found) (sym c.new-found.ensures.items)
    (parts-none (plain_shape c.args.shape) (declaration_of c.args.format.now) c.args.buffers.now)

pub returns-then-is_some-clause-read : goal.returns-then-is_some-clause-read
returns-then-is_some-clause-read c =
    let s = plain_shape c.args.shape in
    let d = declaration_of c.args.format.now in
    let below : c.loop-part.part < length (declaration_of c.args.format.now).parts = omega (arith, c.loop-part-test.true, c.parts-part-end.ensures) in
    let number : c.loop-part.part + 1 - 1 ≡ c.loop-part.part = omega arith in
    parts-failed s d c.args.buffers.now c.loop-part.part c.loop-part.found.items c.read_part.new.found.items c.in_ok-failed.failed below c.loop-part.invariant
    (c.in_ok-failed.ensures.read ∙ ap (λ (k : ℕ). prepend (map plain_found c.loop-part.found.items) (read_part s d c.args.buffers.now k)) number)
    (sym c.is_some.ensures ∙ c.if-is_some.true)

pub loop-part-preserved : goal.loop-part-preserved
loop-part-preserved c =
    let s = plain_shape c.args.shape in
    let d = declaration_of c.args.format.now in
    let below : c.loop-part.part < length (declaration_of c.args.format.now).parts = omega (arith, c.loop-part-test.true, c.parts-part-end.ensures) in
    let number : c.loop-part.part + 1 - 1 ≡ c.loop-part.part = omega arith in
    parts-more s d c.args.buffers.now c.loop-part.part c.loop-part.found.items c.read_part.new.found.items c.in_ok-failed.failed below c.loop-part.invariant
    (c.in_ok-failed.ensures.read ∙ ap (λ (k : ℕ). prepend (map plain_found c.loop-part.found.items) (read_part s d c.args.buffers.now k)) number)
    (sym c.is_some.ensures ∙ c.if-is_some.false) c.in_ok-failed.ensures.fits

pub returns-clause-read : goal.returns-clause-read
returns-clause-read c =
    parts-end (plain_shape c.args.shape) (declaration_of c.args.format.now) c.args.buffers.now c.loop-part.part c.loop-part.found.items
    (omega (arith, c.loop-part-test.false, c.parts-part-end.ensures)) c.loop-part.invariant

pub returns-clause-fits : goal.returns-clause-fits
returns-clause-fits c = c.loop-part.invariant.fits
