use Rattle.std.proofs.Common.{false, length, sym, ◌∙◌, arith}
use Rattle.std.proofs.lemmas.List.Sums.{position_or_len_is}
use Rattle.us_expr.specs.declared.queries.Cond.{Cond}
use Rattle.us_format.specs.Buffers.{meets}
use Rattle.us_variables.specs.Counted.{value_in}
use Rattle.us_layout.proofs.splitting.part_of.Goals as goal

pub returns-then-holds : goal.returns-then-holds
returns-then-holds c =
    sym
    (position_or_len_is (λ (x : Cond). meets x (value_in c.args.variables.now x.var c.args.entry)) c.args.conds.now c.loop-part.part (record { var = 0; less = false; bound = 0 }) c.loop-part.auto.part-end c.loop-part.invariant
    (λ _. sym c.holds.ensures ∙ c.if-holds.true))

pub returns : goal.returns
returns c =
    sym
    (position_or_len_is (λ (x : Cond). meets x (value_in c.args.variables.now x.var c.args.entry)) c.args.conds.now (length c.args.conds.now) (record { var = 0; less = false; bound = 0 }) (omega arith)
    (λ k l. c.loop-part.invariant k (omega (arith, l, c.loop-part-test.false))) (λ l. absurd (omega (arith, l))))
