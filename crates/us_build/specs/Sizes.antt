-- The levels of the program as the definitions see them, and the size of one level.
use Rattle.std.specs.Prelude.{ℕ, ◌+◌, ◌*◌, List, map}
use Rattle.us_format.specs.declared.Kind.{Kind}
use Rattle.us_format.specs.declared.Kind.TheVariants.{Full, Compressed, Listed, Slot}
use Rattle.us_format.specs.Kinds as plain
use Rattle.us_build.specs.declared.levels.Level.{Level}

abbrev pub plain_level : Level → plain.Level
plain_level l = record { kind = l.kind; size = l.size }

abbrev pub plain_levels : List Level → List plain.Level
plain_levels ls = map plain_level ls

-- the lengths of the lists of a level from n positions to m, and m
abbrev pub level_size : Kind → ℕ → ℕ → ℕ
level_size Full n m = m
level_size Compressed n m = n + 1 + 2 * m
level_size Listed n m = n + 1 + 2 * m
level_size Slot n m = n + m
