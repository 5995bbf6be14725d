use Rattle.std.proofs.Common.{◌≡◌, ◌<◌, ◌≤◌, ◌-◌, ◌+◌, ℕ, suc, length, sym, subst, arith}
use Rattle.us_format.specs.Program.{plain_shape}
use Rattle.us_judge.specs.Views.{declaration_of}
use Rattle.us_judge.proofs.Valid.{short-valid}
use Rattle.us_gen_parts.proofs.PartsPassed.{ArePassed, passed-none, passed-more, passed-all}
use Rattle.us_gen_parts.proofs.walks.part_walks.Goals as goal

pub loop-number-init : goal.loop-number-init
loop-number-init c = passed-none (record { source = 0; dim = c.args.first_dim }) (plain_shape c.args.shape) (declaration_of c.args.format.now) _ c.new-walks.ensures.items

pub loop-number-preserved : goal.loop-number-preserved
loop-number-preserved c =
    let below : c.loop-number.number - 1 < length (declaration_of c.args.format.now).parts = omega (arith, c.loop-number.auto.number, c.loop-number-test.true, c.parts-end.ensures) in
    let behind : c.loop-number.number + 1 - 1 ≡ suc (c.loop-number.number - 1) = omega (arith, c.loop-number.auto.number) in
    subst (λ (n : ℕ). ArePassed (record { source = 0; dim = c.args.first_dim }) (plain_shape c.args.shape) (declaration_of c.args.format.now) n c.next_start-start.result c.push_walk.new.walks.items) (sym behind)
    (passed-more (record { source = 0; dim = c.args.first_dim }) (plain_shape c.args.shape) (declaration_of c.args.format.now) (c.loop-number.number - 1) c.loop-number.start c.next_start-start.result c.loop-number.walks.items
    c.push_walk.new.walks.items c.loop-number.invariant below c.in_ok-push_walk.ensures c.next_start-start.ensures.is c.next_start-start.ensures.source c.next_start-start.ensures.dim)

pub push_walk-requires-clause-base : goal.push_walk-requires-clause-base
push_walk-requires-clause-base c =
    let few = (short-valid c.args.format.now c.first_part.ensures.valid).few in
    omega (arith, few, c.loop-number.invariant.source, c.loop-number.auto.number, c.loop-number-test.true, c.parts-end.ensures)

pub push_walk-requires-clause-dims : goal.push_walk-requires-clause-dims
push_walk-requires-clause-dims c =
    let few = (short-valid c.args.format.now c.first_part.ensures.valid).few in
    omega (arith, few, c.loop-number.invariant.dim, c.loop-number.auto.number, c.loop-number-test.true, c.parts-end.ensures, c.requires.dims)

pub next_start-start-requires-clause-base : goal.next_start-start-requires-clause-base
next_start-start-requires-clause-base c =
    let few = (short-valid c.args.format.now c.first_part.ensures.valid).few in
    omega (arith, few, c.loop-number.invariant.source, c.loop-number.auto.number, c.loop-number-test.true, c.parts-end.ensures)

pub next_start-start-requires-clause-dims : goal.next_start-start-requires-clause-dims
next_start-start-requires-clause-dims c =
    let few = (short-valid c.args.format.now c.first_part.ensures.valid).few in
    omega (arith, few, c.loop-number.invariant.dim, c.loop-number.auto.number, c.loop-number-test.true, c.parts-end.ensures, c.requires.dims)

pub returns : goal.returns
returns c =
    let past : length (declaration_of c.args.format.now).parts ≤ c.loop-number.number - 1 = omega (arith, c.loop-number.auto.number, c.loop-number-test.false, c.parts-end.ensures) in
    passed-all (record { source = 0; dim = c.args.first_dim }) (plain_shape c.args.shape) (declaration_of c.args.format.now) (c.loop-number.number - 1) c.loop-number.start c.loop-number.walks.items c.loop-number.invariant past

pub overflow_add-end : goal.overflow_add-end
overflow_add-end c =
    let few = (short-valid c.args.format.now c.first_part.ensures.valid).few in
    omega (arith, few, c.parts-end.ensures)
