use Rattle.std.proofs.Common.{◌++◌, [], ◌∷◌, ℕ, List, ap₂, sym, ◌∙◌, arith}
use Rattle.std.specs.List.{position_or_len}
use Rattle.std.proofs.lemmas.List.FromFn.{map-range_with_len_more}
use Rattle.us_expr.specs.declared.queries.Cond.{Cond}
use Rattle.us_format.specs.Buffers.{meets}
use Rattle.us_variables.specs.Counted.{value_in}
use Rattle.us_layout.proofs.splitting.parts_of.Goals as goal

pub loop-entry-preserved : goal.loop-entry-preserved
loop-entry-preserved c =
    c.in_ok-push.ensures.items ∙ ap₂ (λ (xs : List ℕ) (x : ℕ). xs ++ x ∷ []) c.loop-entry.invariant c.part_of.ensures
    ∙ sym
    (map-range_with_len_more (λ (k : ℕ). position_or_len (λ (x : Cond). meets x (value_in c.args.variables.now x.var k)) c.args.conds.now) 0 c.loop-entry.entry c.loop-entry.entry (omega arith))
