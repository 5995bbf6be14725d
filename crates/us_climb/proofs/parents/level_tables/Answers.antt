use Rattle.std.proofs.Common.{◌+◌, ℕ, List, Vec, Global, take, sym, subst}
use Rattle.std.proofs.lemmas.List.{take_more}
use Rattle.us_climb.specs.Parents.{tables_in}
use Rattle.us_climb.proofs.LevelTables.{AreTablesOf, inside-at, tables-more}
use Rattle.us_climb.proofs.parents.level_tables.Goals as goal

pub level_table-requires : goal.level_table-requires
level_table-requires c = inside-at c.args.levels.now c.loop-level.level-index _ c.requires c.loop-level-test.true

pub loop-level-preserved : goal.loop-level-preserved
loop-level-preserved c =
    subst (λ (ts : List (Vec ℕ Global)). AreTablesOf (take (c.loop-level.level-index + 1) c.args.levels.now) (c.loop-level.level-index + 1) c.args.buffers.now (tables_in ts)) (sym c.in_ok-push.ensures.items)
    (tables-more (take c.loop-level.level-index c.args.levels.now) (take (c.loop-level.level-index + 1) c.args.levels.now) c.loop-level.level-index c.args.buffers.now c.loop-level.tables.items _ c.in_ok-level_table.field-0
    c.loop-level.invariant c.in_ok-level_table.ensures (take_more c.args.levels.now c.loop-level.level-index _ c.loop-level-test.true))
