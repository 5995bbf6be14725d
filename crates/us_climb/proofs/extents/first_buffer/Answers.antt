use Rattle.std.proofs.Common.{◌≡◌, ◌<◌, ◌-◌, ◌+◌, ℕ, suc, length, sym, ap, ap₂, ◌∙◌, arith}
use Rattle.us_judge.specs.Views.{declaration_of}
use Rattle.us_judge.proofs.Valid.{short-valid}
use Rattle.us_climb.specs.Own.{buffers_before}
use Rattle.us_climb.proofs.BuffersFit.{before-more}
use Rattle.us_climb.proofs.extents.first_buffer.Goals as goal

pub loop-before-preserved : goal.loop-before-preserved
loop-before-preserved c =
    let d = declaration_of c.args.format.now in
    let k = c.loop-before.before - 1 in
    let below : c.loop-before.before - 1 < length (declaration_of c.args.format.now).parts = omega (arith, c.loop-before.auto.before, c.loop-before-test.true, c.requires.part) in
    let number : c.loop-before.before + 1 - 1 ≡ suc (c.loop-before.before - 1) = omega (arith, c.loop-before.auto.before) in (
      ap₂ (λ (m n : ℕ). m + n) c.loop-before.invariant.0 c.part_buffers-first.ensures.count
          ∙ sym (before-more d k below)
          ∙ ap (buffers_before d.parts) (sym number),
      omega (arith, c.loop-before.invariant.1, c.part_buffers-first.ensures.few, c.loop-before.auto.before),
    )

pub returns-clause-is : goal.returns-clause-is
returns-clause-is c =
    let last : c.loop-before.before - 1 ≡ c.args.number - 1 = omega (arith, c.loop-before.auto.before, c.loop-before-test.false, c.loop-before.auto.before-end c.requires.from_one) in
    c.loop-before.invariant.0 ∙ ap (buffers_before (declaration_of c.args.format.now).parts) last

pub overflow_add-first : goal.overflow_add-first
overflow_add-first c =
    let few = (short-valid c.args.format.now c.first_part.ensures.valid).few in
    omega (arith, few, c.loop-before.auto.before, c.loop-before-test.true, c.requires.part, c.loop-before.invariant.1, c.part_buffers-first.ensures.few)

pub returns-clause-few : goal.returns-clause-few
returns-clause-few c =
    let few = (short-valid c.args.format.now c.first_part.ensures.valid).few in
    omega (arith, few, c.loop-before.auto.before, c.loop-before-test.false, c.loop-before.auto.before-end c.requires.from_one, c.loop-before.invariant.1, c.requires.part)
