use Rattle.std.proofs.Common.{◌≡◌, ◌+◌, map, take, length, pos}
use Rattle.us_code.specs.Plain.{phase_tree}
use Rattle.us_code.specs.Runs.{World, Went, phases}
use Rattle.us_code.specs.Typing.{TypedPhases, after_phases}
use Rattle.us_machine.specs.Phases.{Point, IsAt, After, world_at, count_makes}
use Rattle.us_machine.proofs.phases.run_phases.Given as goal

abbrev pub invariant-loop-phase : goal.invariant-loop-phase
invariant-loop-phase l = record {
  reached : (p : Point) → IsAt l.fn.tables l.source l.fn.steps p → p.region ≡ l.fn.region → p.regs ≡ (λ _. pos 0) → TypedPhases p.context (map phase_tree l.phases)
      → (w : World) × (phases (take l.phase-index (map phase_tree l.phases)) (world_at l.fn.tables l.source p) ≡ Went w) × After l.tables l.source l.region l.steps (after_phases p.context (take l.phase-index (map phase_tree l.phases))) w;
  budget : l.tables.budget ≡ l.fn.tables.budget;
  plan : length l.tables.plan.items ≡ length l.fn.tables.plan.items + count_makes (take l.phase-index (map phase_tree l.phases));
}
