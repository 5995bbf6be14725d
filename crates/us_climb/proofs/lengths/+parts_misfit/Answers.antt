use Rattle.std.proofs.Common.{◌≡◌, ℕ, suc, ◌+◌, ◌-◌, ◌<◌, drop, length, sym, ap, ap₂, ◌∙◌, arith}
use Rattle.std.specs.Prelude.{Option}
use Rattle.us_format.specs.Lists.{or_else}
use Rattle.us_format.specs.Program.{plain_shape}
use Rattle.us_format.specs.Reading.{all_tests, buffer_count}
use Rattle.us_judge.specs.Format.{part_at}
use Rattle.us_judge.specs.Views.{declaration_of}
use Rattle.us_climb.specs.Layout.{first_failing}
use Rattle.us_climb.proofs.PartTests.{parts-failing}
use Rattle.us_climb.proofs.lengths.+parts_misfit.Goals as goal

pub returns-in-Some : goal.returns-in-Some
returns-in-Some t c =
    let d = declaration_of c.args.format.now in
    let k = c.args.number - 1 in
    let below : c.args.number - 1 < length (declaration_of c.args.format.now).parts = omega (arith, c.requires.from_one, c.if-number-parts.false, c.parts.ensures) in
    let n = c.args.first + buffer_count (part_at d k) in
    sym (parts-failing (plain_shape c.args.shape) d k c.args.first c.args.buffers.now below
    ∙ ap (λ (o : Option ℕ). or_else o (first_failing (all_tests (plain_shape c.args.shape) n (drop (suc k) d.parts) (drop n c.args.buffers.now)))) (sym c.part_misfit.ensures ∙ c.in-Some.is))

pub returns : goal.returns
returns t c =
    let d = declaration_of c.args.format.now in
    let k = c.args.number - 1 in
    let below : c.args.number - 1 < length (declaration_of c.args.format.now).parts = omega (arith, c.requires.from_one, c.if-number-parts.false, c.parts.ensures) in
    let n = c.args.first + buffer_count (part_at d k) in
    let number : c.args.number + 1 - 1 ≡ suc (c.args.number - 1) = omega (arith, c.requires.from_one) in
    c.parts_misfit.ensures
    ∙ ap₂ (λ (i j : ℕ). first_failing (all_tests (plain_shape c.args.shape) j (drop i d.parts) (drop j c.args.buffers.now))) number (ap (λ (j : ℕ). c.args.first + j) c.part_buffers.ensures.count)
    ∙ sym (parts-failing (plain_shape c.args.shape) d k c.args.first c.args.buffers.now below
    ∙ ap (λ (o : Option ℕ). or_else o (first_failing (all_tests (plain_shape c.args.shape) n (drop (suc k) d.parts) (drop n c.args.buffers.now)))) (sym c.part_misfit.ensures ∙ c.in_default.is))
