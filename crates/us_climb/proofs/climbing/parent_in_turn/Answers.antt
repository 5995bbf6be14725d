use Rattle.std.proofs.Common.{◌-◌, sym, arith}
use Rattle.us_climb.proofs.FirstParents.{first_parent, parent_none}
use Rattle.us_climb.proofs.climbing.parent_in_turn.Goals as goal

pub returns-then-is_parent : goal.returns-then-is_parent
returns-then-is_parent c =
    sym (first_parent c.args.starts.now c.args.x (c.loop-p.p - 1) (omega arith) (sym c.if-is_parent.ensures) (λ k l. c.loop-p.invariant k (omega arith)))

pub returns : goal.returns
returns c = sym (parent_none c.args.starts.now c.args.x (λ k l. c.loop-p.invariant k (omega arith)))
