use Rattle.std.proofs.Common.{◌≡◌, ◌<◌, ◌≤◌, ◌-◌, ◌+◌, ◌*◌, ℕ, suc, length, sym, subst, arith}
use Rattle.us_judge.specs.Views.{declaration_of}
use Rattle.us_judge.proofs.Valid.{short-valid}
use Rattle.us_gen_parts.proofs.PartsPassed.{AreCounted, counted-none, counted-more, counted-all}
use Rattle.us_gen_parts.proofs.walks.dim_count.Goals as goal

pub loop-number-init : goal.loop-number-init
loop-number-init c = counted-none (declaration_of c.args.format.now)

pub loop-number-preserved : goal.loop-number-preserved
loop-number-preserved c =
    let below : c.loop-number.number - 1 < length (declaration_of c.args.format.now).parts = omega (arith, c.loop-number.auto.number, c.loop-number-test.true, c.parts-end.ensures) in
    let behind : c.loop-number.number + 1 - 1 ≡ suc (c.loop-number.number - 1) = omega (arith, c.loop-number.auto.number) in
    subst (λ (n : ℕ). AreCounted (declaration_of c.args.format.now) n (c.loop-number.count + (16 + 2 * c.level_count-levels.result))) (sym behind)
    (counted-more (declaration_of c.args.format.now) (c.loop-number.number - 1) c.loop-number.count c.level_count-levels.result c.loop-number.invariant below c.level_count-levels.ensures.is c.level_count-levels.ensures.few)

pub returns-clause-is : goal.returns-clause-is
returns-clause-is c =
    let past : length (declaration_of c.args.format.now).parts ≤ c.loop-number.number - 1 = omega (arith, c.loop-number.auto.number, c.loop-number-test.false, c.parts-end.ensures) in
    counted-all (declaration_of c.args.format.now) (c.loop-number.number - 1) c.loop-number.count c.loop-number.invariant past

pub returns-clause-few : goal.returns-clause-few
returns-clause-few c =
    let few = (short-valid c.args.format.now c.first_part.ensures.valid).few in
    omega (arith, few, c.loop-number.invariant.few, c.loop-number.auto.number, c.loop-number.auto.number-end, c.loop-number-test.false, c.parts-end.ensures)

pub overflow_add-count : goal.overflow_add-count
overflow_add-count c =
    let few = (short-valid c.args.format.now c.first_part.ensures.valid).few in
    omega (arith, few, c.loop-number.invariant.few, c.loop-number.auto.number, c.loop-number-test.true, c.parts-end.ensures, c.level_count-levels.ensures.few)

pub overflow_add-end : goal.overflow_add-end
overflow_add-end c =
    let few = (short-valid c.args.format.now c.first_part.ensures.valid).few in
    omega (arith, few, c.parts-end.ensures)
