use Rattle.std.proofs.Common.{ℕ, take, drop}
use Rattle.us_code.specs.Plain.{plain_list, tree_of}
use Rattle.us_code.specs.Run.{exec, turns}
use Rattle.us_code.specs.Typing.{Context}
use Rattle.us_machine.specs.Steps.{Shows}
use Rattle.us_machine.specs.Tables.{env_of, regs_of}
use Rattle.us_machine.specs.Walks.{Ready, Turning, Reaches, state_of, turn_from}
use Rattle.us_machine.proofs.walk.+walk.Given as goal

abbrev pub invariant-run_block-loop-stmt : goal.invariant-run_block-loop-stmt
invariant-run_block-loop-stmt l = record {
  ready : (g : Context) × Ready l.tables l.source l.region (regs_of l.regs) g (plain_list (drop l.stmt-index l.stmt-items));
  reached : (n : ℕ) → Shows l.tables.budget l.fn.steps n → Reaches l.tables l.source (exec (env_of l.tables l.source) (plain_list (take l.stmt-index l.stmt-items)) (state_of l.tables l.fn.region (regs_of l.fn.regs) n)) l.region (regs_of l.regs) l.steps;
}

abbrev pub invariant-run_turns-loop-turn : goal.invariant-run_turns-loop-turn
invariant-run_turns-loop-turn l = record {
  ready : (g : Context) × Turning l.tables l.source l.region (regs_of l.regs) g l.reg l.end (tree_of l.body);
  reached : (n : ℕ) → Shows l.tables.budget l.fn.steps n → Reaches l.tables l.source (turns l.turn (turn_from (env_of l.tables l.source) l.reg l.first (tree_of l.body)) (state_of l.tables l.fn.region (regs_of l.fn.regs) n)) l.region (regs_of l.regs) l.steps;
}
