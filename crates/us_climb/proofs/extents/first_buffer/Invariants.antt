use Rattle.std.proofs.Common.{◌≡◌, ◌≤◌, ◌-◌, ◌*◌}
use Rattle.us_judge.specs.Views.{declaration_of}
use Rattle.us_climb.specs.Own.{buffers_before}
use Rattle.us_climb.proofs.extents.first_buffer.Given as goal

abbrev pub invariant-loop-before : goal.invariant-loop-before
invariant-loop-before l = (l.first ≡ buffers_before (declaration_of l.format).parts (l.before - 1)) × (l.first ≤ 81 * (l.before - 1))
