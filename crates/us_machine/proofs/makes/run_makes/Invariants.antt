use Rattle.std.proofs.Common.{◌≡◌, ◌+◌, length, take}
use Rattle.us_code.specs.Runs.{World, Went, make_all}
use Rattle.us_code.specs.Typing.{TypedMakes, with_bufs}
use Rattle.us_machine.specs.Phases.{Point, IsAt, Next, world_at}
use Rattle.us_machine.proofs.makes.run_makes.Given as goal

abbrev pub invariant-loop-make : goal.invariant-loop-make
invariant-loop-make l = record {
  reached : (p : Point) → IsAt l.fn.tables l.source l.fn.steps p → TypedMakes p.context l.makes
      → (w : World) × (make_all (take l.make-index l.makes) (world_at l.fn.tables l.source p) ≡ Went w) × Next l.tables l.source l.steps p (with_bufs p.context (take l.make-index l.makes)) w;
  budget : l.tables.budget ≡ l.fn.tables.budget;
  plan : length l.tables.plan.items ≡ length l.fn.tables.plan.items + l.make-index;
}
