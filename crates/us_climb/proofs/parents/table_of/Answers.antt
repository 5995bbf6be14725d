use Rattle.std.proofs.Common.{ℕ, List, replicate, subst, sym, ◌∙◌}
use Rattle.us_climb.specs.Parents.{AreSkips, none}
use Rattle.us_climb.proofs.Tables.{skips-start}
use Rattle.us_climb.proofs.parents.table_of.Goals as goal

pub fill-requires-clause-skips : goal.fill-requires-clause-skips
fill-requires-clause-skips c =
    subst (λ (table : List ℕ). AreSkips table c.deref_mut-2.result.now) (sym (c.deref_mut.ensures.value ∙ c.in_ok-table.ensures))
    (subst (λ (skips : List ℕ). AreSkips (replicate c.args.count none) skips) (sym (c.deref_mut-2.ensures.value ∙ c.in_ok-skips.ensures)) (skips-start c.args.count))
