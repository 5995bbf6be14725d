use Rattle.std.proofs.Common.{take}
use Rattle.us_climb.specs.Parents.{tables_in}
use Rattle.us_climb.proofs.LevelTables.{AreTablesOf}
use Rattle.us_climb.proofs.parents.level_tables.Given as goal

abbrev pub invariant-loop-level : goal.invariant-loop-level
invariant-loop-level l = AreTablesOf (take l.level-index l.levels) l.level-index l.buffers (tables_in l.tables.items)
