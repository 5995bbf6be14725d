use Rattle.std.proofs.Common.{◌≡◌, ◌<◌, arith, ◌∙◌, sym, ap, subst, map, length, get_or, [], ◌∷◌, refl, Err}
use Rattle.std.proofs.lemmas.Result.{err_from_is_err_and}
use Rattle.us_code.specs.Plain.{LineTree, line_tree}
use Rattle.us_code.specs.Runs.{Went, line, line_all}
use Rattle.us_code.specs.Typing.{Context, TypedLines, with_lines}
use Rattle.us_machine.specs.declared.budget.Budget.{Budget}
use Rattle.us_machine.specs.Tables.{regs_of}
use Rattle.us_machine.specs.Phases.{Next, Ends, world_at}
use Rattle.us_machine.proofs.Naming.{line_typed, line_fits, line_context, tree_at, tree_lt}
use Rattle.us_machine.proofs.Series.{later_lines, ended, all_more, all_stopped}
use Rattle.us_machine.proofs.lines.run_lines.Goals as goal

pub loop-line-init : goal.loop-line-init
loop-line-init c = record {
  reached = λ p at keeps typed. ((world_at c.args.tables.now c.args.source.now p), refl, record { point = p; region = refl; regs = refl; context = refl; world = refl; at = at });
  budget = refl;
  plan = refl;
}

pub run_line-requires : goal.run_line-requires
run_line-requires c =
    let x : LineTree = line_tree c.line-item.result in
    let ls = map line_tree c.args.lines.now in
    let lt : c.loop-line.line-index < length ls = tree_lt c.args.lines.now c.loop-line.line-index (omega arith) in
    let is : x ≡ get_or ls c.loop-line.line-index x = tree_at c.args.lines.now c.loop-line.line-index c.line-item.result (omega arith) c.line-item.is in
    let r = c.loop-line.invariant.reached c.requires.point c.requires.at c.requires.keeps c.requires.typed in
    record {
      point = r.2.point;
      at = r.2.at;
      keeps = r.2.regs ∙ c.requires.keeps;
      typed = subst (λ (g : Context). TypedLines g (x ∷ [])) (sym r.2.context) (line_typed ls c.loop-line.line-index x lt is c.requires.point.context c.requires.typed);
      fits = line_fits ls c.loop-line.line-index x lt is c.requires.fits;
    }

pub returns-in_err-run_line-clause-names : goal.returns-in_err-run_line-clause-names
returns-in_err-run_line-clause-names c =
    let x : LineTree = line_tree c.line-item.result in
    let ls = map line_tree c.args.lines.now in
    let lt : c.loop-line.line-index < length ls = tree_lt c.args.lines.now c.loop-line.line-index (omega arith) in
    let is : x ≡ get_or ls c.loop-line.line-index x = tree_at c.args.lines.now c.loop-line.line-index c.line-item.result (omega arith) c.line-item.is in
    let q = err_from_is_err_and c.from_residual.result c.from_residual.ensures.1 in
    rw (q.1, q.2) (λ p at keeps typed.
    let r = c.loop-line.invariant.reached p at keeps typed in
    let h = c.in_err-run_line.ensures.names r.2.point r.2.at (r.2.regs ∙ keeps) (subst (λ (g : Context). TypedLines g (x ∷ [])) (sym r.2.context) (line_typed ls c.loop-line.line-index x lt is p.context typed)) in
    subst (λ (b : Budget). Ends b (Err c.in_err-run_line.field-0.0) (line_all (regs_of c.args.regs.now) ls (world_at c.args.tables.now c.args.source.now p)) (λ w. Next c.run_line.new.tables c.args.source.now c.run_line.new.steps p (with_lines p.context ls) w)) c.loop-line.invariant.budget
    (all_stopped (line_all (regs_of c.args.regs.now)) (line (regs_of c.args.regs.now)) (λ w. refl) (λ y ys w. refl) (later_lines (regs_of c.args.regs.now)) ls c.loop-line.line-index x (world_at c.args.tables.now c.args.source.now p) (world_at c.loop-line.tables c.args.source.now r.2.point) lt is (r.1 ∙ ap Went r.2.world) c.loop-line.tables.budget c.in_err-run_line.field-0.0
    (λ w. Next c.run_line.new.tables c.args.source.now c.run_line.new.steps r.2.point (with_lines r.2.point.context (x ∷ [])) w) (λ w. Next c.run_line.new.tables c.args.source.now c.run_line.new.steps p (with_lines p.context ls) w) h))

pub loop-line-preserved : goal.loop-line-preserved
loop-line-preserved c =
    let x : LineTree = line_tree c.line-item.result in
    let ls = map line_tree c.args.lines.now in
    let lt : c.loop-line.line-index < length ls = tree_lt c.args.lines.now c.loop-line.line-index (omega arith) in
    let is : x ≡ get_or ls c.loop-line.line-index x = tree_at c.args.lines.now c.loop-line.line-index c.line-item.result (omega arith) c.line-item.is in
    record {
      reached = λ p at keeps typed.
          let r = c.loop-line.invariant.reached p at keeps typed in
          let h = c.in_ok-run_line.ensures.names r.2.point r.2.at (r.2.regs ∙ keeps) (subst (λ (g : Context). TypedLines g (x ∷ [])) (sym r.2.context) (line_typed ls c.loop-line.line-index x lt is p.context typed)) in
          let d = ended c.loop-line.tables.budget tt (line_all (regs_of c.args.regs.now) (x ∷ []) (world_at c.loop-line.tables c.args.source.now r.2.point)) (λ w. Next c.run_line.new.tables c.args.source.now c.run_line.new.steps r.2.point (with_lines r.2.point.context (x ∷ [])) w) h in (
            d.0,
            all_more (line_all (regs_of c.args.regs.now)) (line (regs_of c.args.regs.now)) (λ w. refl) (λ y ys w. refl) (later_lines (regs_of c.args.regs.now)) ls c.loop-line.line-index x (world_at c.args.tables.now c.args.source.now p) (world_at c.loop-line.tables c.args.source.now r.2.point) lt is (r.1 ∙ ap Went r.2.world) ∙ d.1,
            record {
              point = d.2.point;
              region = d.2.region ∙ r.2.region;
              regs = d.2.regs ∙ r.2.regs;
              context = d.2.context ∙ (ap (λ (g : Context). with_lines g (x ∷ [])) r.2.context ∙ sym (line_context ls c.loop-line.line-index x lt is p.context));
              world = d.2.world;
              at = d.2.at;
            },
          );
      budget = c.run_line.ensures.budget ∙ c.loop-line.invariant.budget;
      plan = c.run_line.ensures.plan ∙ c.loop-line.invariant.plan;
    }
