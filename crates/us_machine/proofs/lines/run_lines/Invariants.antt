use Rattle.std.proofs.Common.{◌≡◌, map, take}
use Rattle.us_code.specs.Plain.{line_tree}
use Rattle.us_code.specs.Runs.{World, Went, line_all}
use Rattle.us_code.specs.Typing.{TypedLines, with_lines}
use Rattle.us_machine.specs.Phases.{Point, IsAt, Next, world_at}
use Rattle.us_machine.specs.Tables.{regs_of}
use Rattle.us_machine.proofs.lines.run_lines.Given as goal

abbrev pub invariant-loop-line : goal.invariant-loop-line
invariant-loop-line l = record {
  reached : (p : Point) → IsAt l.fn.tables l.source l.fn.steps p → p.regs ≡ regs_of l.regs → TypedLines p.context (map line_tree l.lines)
      → (w : World) × (line_all (regs_of l.regs) (take l.line-index (map line_tree l.lines)) (world_at l.fn.tables l.source p) ≡ Went w) × Next l.tables l.source l.steps p (with_lines p.context (take l.line-index (map line_tree l.lines))) w;
  budget : l.tables.budget ≡ l.fn.tables.budget;
  plan : l.tables.plan ≡ l.fn.tables.plan;
}
