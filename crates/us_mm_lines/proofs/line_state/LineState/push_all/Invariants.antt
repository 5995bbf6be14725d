use Rattle.std.proofs.Common.{ℕ, List, ◌++◌, take}
use Rattle.us_mm_lines.specs.States.{IsLineState}
use Rattle.us_mm_lines.proofs.line_state.LineState.push_all.Given as goal

abbrev pub invariant-loop-b : goal.invariant-loop-b
invariant-loop-b l = (rest : List ℕ) → IsLineState l.fn.self rest → IsLineState l.self (rest ++ take l.b-index l.bytes)
