use Rattle.std.proofs.Common.{◌≡◌, ◌<◌, arith, ◌∙◌, sym, ap, subst, length, get_or, [], ◌∷◌, refl, Err}
use Rattle.std.proofs.lemmas.List.{get_or_default}
use Rattle.std.proofs.lemmas.Result.{err_from_is_err_and}
use Rattle.us_code.specs.declared.program.Dim.TheVariants as dim
use Rattle.us_code.specs.declared.program.CellKind.TheVariants as kind
use Rattle.us_code.specs.declared.program.Make.{Make}
use Rattle.us_code.specs.Runs.{Went, make, make_all}
use Rattle.us_code.specs.Typing.{Context, TypedMakes, with_bufs}
use Rattle.us_machine.specs.declared.budget.Budget.{Budget}
use Rattle.us_machine.specs.Phases.{Next, Ends, world_at}
use Rattle.us_machine.proofs.Making.{make_typed, make_fits, make_context}
use Rattle.us_machine.proofs.Series.{later_makes, ended, all_more, all_stopped}
use Rattle.us_machine.proofs.makes.run_makes.Goals as goal

pub loop-make-init : goal.loop-make-init
loop-make-init c = record {
  reached = λ p at typed. ((world_at c.args.tables.now c.args.source.now p), refl, record { point = p; region = refl; regs = refl; context = refl; world = refl; at = at });
  budget = refl;
  plan = omega arith;
}

pub make_one-requires : goal.make_one-requires
make_one-requires c =
    let x : Make = get_or c.args.makes.now c.loop-make.make-index record { buf = 0; len = dim.Number 0; cell = kind.Word } in
    let lt : c.loop-make.make-index < length c.args.makes.now = omega arith in
    let is : x ≡ get_or c.args.makes.now c.loop-make.make-index x = get_or_default c.args.makes.now c.loop-make.make-index _ x lt in
    let r = c.loop-make.invariant.reached c.requires.point c.requires.at c.requires.typed in
    record {
      point = r.2.point;
      at = r.2.at;
      typed = subst (λ (g : Context). TypedMakes g (x ∷ [])) (sym r.2.context) (make_typed c.args.makes.now c.loop-make.make-index x lt is c.requires.point.context c.requires.typed);
      fits = make_fits c.args.makes.now c.loop-make.make-index x lt is c.requires.fits;
      room = omega (arith, lt, c.requires.room, c.loop-make.invariant.plan);
    }

pub returns-in_err-make_one-clause-makes : goal.returns-in_err-make_one-clause-makes
returns-in_err-make_one-clause-makes c =
    let x : Make = get_or c.args.makes.now c.loop-make.make-index record { buf = 0; len = dim.Number 0; cell = kind.Word } in
    let lt : c.loop-make.make-index < length c.args.makes.now = omega arith in
    let is : x ≡ get_or c.args.makes.now c.loop-make.make-index x = get_or_default c.args.makes.now c.loop-make.make-index _ x lt in
    let q = err_from_is_err_and c.from_residual.result c.from_residual.ensures.1 in
    rw (q.1, q.2) (λ p at typed.
    let r = c.loop-make.invariant.reached p at typed in
    let h = c.in_err-make_one.ensures.makes r.2.point r.2.at (subst (λ (g : Context). TypedMakes g (x ∷ [])) (sym r.2.context) (make_typed c.args.makes.now c.loop-make.make-index x lt is p.context typed)) in
    subst (λ (b : Budget). Ends b (Err c.in_err-make_one.field-0.0) (make_all c.args.makes.now (world_at c.args.tables.now c.args.source.now p)) (λ w. Next c.make_one.new.tables c.args.source.now c.make_one.new.steps p (with_bufs p.context c.args.makes.now) w)) c.loop-make.invariant.budget
    (all_stopped make_all make (λ w. refl) (λ y ys w. refl) later_makes c.args.makes.now c.loop-make.make-index x (world_at c.args.tables.now c.args.source.now p) (world_at c.loop-make.tables c.args.source.now r.2.point) lt is (r.1 ∙ ap Went r.2.world) c.loop-make.tables.budget c.in_err-make_one.field-0.0
    (λ w. Next c.make_one.new.tables c.args.source.now c.make_one.new.steps r.2.point (with_bufs r.2.point.context (x ∷ [])) w) (λ w. Next c.make_one.new.tables c.args.source.now c.make_one.new.steps p (with_bufs p.context c.args.makes.now) w) h))

pub loop-make-preserved : goal.loop-make-preserved
loop-make-preserved c =
    let x : Make = get_or c.args.makes.now c.loop-make.make-index record { buf = 0; len = dim.Number 0; cell = kind.Word } in
    let lt : c.loop-make.make-index < length c.args.makes.now = omega arith in
    let is : x ≡ get_or c.args.makes.now c.loop-make.make-index x = get_or_default c.args.makes.now c.loop-make.make-index _ x lt in
    record {
      reached = λ p at typed.
          let r = c.loop-make.invariant.reached p at typed in
          let h = c.in_ok-make_one.ensures.makes r.2.point r.2.at (subst (λ (g : Context). TypedMakes g (x ∷ [])) (sym r.2.context) (make_typed c.args.makes.now c.loop-make.make-index x lt is p.context typed)) in
          let d = ended c.loop-make.tables.budget tt (make_all (x ∷ []) (world_at c.loop-make.tables c.args.source.now r.2.point)) (λ w. Next c.make_one.new.tables c.args.source.now c.make_one.new.steps r.2.point (with_bufs r.2.point.context (x ∷ [])) w) h in (
            d.0,
            all_more make_all make (λ w. refl) (λ y ys w. refl) later_makes c.args.makes.now c.loop-make.make-index x (world_at c.args.tables.now c.args.source.now p) (world_at c.loop-make.tables c.args.source.now r.2.point) lt is (r.1 ∙ ap Went r.2.world) ∙ d.1,
            record {
              point = d.2.point;
              region = d.2.region ∙ r.2.region;
              regs = d.2.regs ∙ r.2.regs;
              context = d.2.context ∙ (ap (λ (g : Context). with_bufs g (x ∷ [])) r.2.context ∙ sym (make_context c.args.makes.now c.loop-make.make-index x lt is p.context));
              world = d.2.world;
              at = d.2.at;
            },
          );
      budget = c.make_one.ensures.budget ∙ c.loop-make.invariant.budget;
      plan = omega (arith, c.in_ok-make_one.ensures.plan, c.loop-make.invariant.plan);
    }
