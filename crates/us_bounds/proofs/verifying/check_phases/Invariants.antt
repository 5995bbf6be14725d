use Rattle.std.proofs.Common.{◌≡◌, ◌≤◌, drop, map}
use Rattle.us_code.specs.Plain.{phase_tree}
use Rattle.us_code.specs.Limits.{items}
use Rattle.us_code.specs.Unbound.{unbound_from}
use Rattle.us_bounds.specs.Seen.{context_of}
use Rattle.us_bounds.proofs.verifying.check_phases.Given as goal

abbrev pub invariant-loop-number : goal.invariant-loop-number
invariant-loop-number l = record { room : items (map phase_tree (drop l.number l.phases)) ≤ 65536; goes_on : unbound_from (context_of l.fn.table) 0 (map phase_tree l.phases) l.give ≡ unbound_from (context_of l.table) l.number (map phase_tree (drop l.number l.phases)) l.give }
