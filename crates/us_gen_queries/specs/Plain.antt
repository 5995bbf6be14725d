-- Columns of entries alone.
use Rattle.std.specs.Prelude.{[]}
use Rattle.us_code.specs.declared.pieces.Columns.{Columns}

-- the columns of the entries, without those of variables
abbrev pub bare : Columns → Columns
bare cs = record { count = cs.count; i = cs.i; j = cs.j; v = cs.v; vars = record { items = [] } }
