-- Declarations without names: as they are declared, and as the program holds them.
use Rattle.std.specs.Prelude.{[], ◌∷◌, map, length}
use Rattle.us_expr.specs.Tree.{tree}
use Rattle.us_format.specs.Declaration.{Query, SumOf, Enumerate, Reorder, Schedule, Column, LevelColumn, ValueColumn, Part, Declaration, query_of}
use Rattle.us_decl.specs.declared.column.Column as columns
use Rattle.us_decl.specs.declared.column.Column.TheVariants.{Level, Val}
use Rattle.us_decl.specs.declared.decl.Part as held
use Rattle.us_decl.specs.declared.decl.Head as heads
use Rattle.us_decl.specs.declared.decl.Body as bodies
use Rattle.us_decl.specs.declared.decl.Body.TheVariants as body
use Rattle.us_decl.specs.Declares.{DeclaredPart, DeclaredHead, DeclaredBody, Undivided, Divided, Declared}
use Rattle.us_decl.specs.Declares as text

abbrev pub plain_query : text.Query → Query
plain_query (text.SumOf v e) = SumOf v e
plain_query (text.EnumerateOf v e) = Enumerate v e
plain_query (text.ReorderOf v e) = Reorder v e
plain_query (text.ScheduleOf l t e n) = Schedule l t e n

abbrev pub column_of : columns.Column → Column
column_of (Level k) = LevelColumn k
column_of Val = ValueColumn

abbrev pub part_of : DeclaredPart → Part
part_of p = record {
  names = length p.names;
  queries = map plain_query p.queries;
  levels = p.levels;
  trim = p.trim;
  merge = p.merge;
  packs = map (map column_of) p.packs;
}

-- the declaration of a text, with how many names its head and its parts have
abbrev pub declaration_of : Declared → Declaration
declaration_of d = by_body d.body
  where
    by_body : DeclaredBody → Declaration
    by_body (Undivided p) = record { head_names = 0; head = []; conds = []; parts = part_of p ∷ [] }
    by_body (Divided h ps) = record { head_names = length h.names; head = map plain_query h.queries; conds = h.conds; parts = map part_of ps }

-- a part of the program
abbrev pub plain_part : held.Part → Part
plain_part p = record {
  names = length p.names;
  queries = map query_of p.queries;
  levels = map tree p.levels;
  trim = p.trim;
  merge = p.merge;
  packs = map (map column_of) p.packs;
}

-- a body of the program
abbrev pub plain_body : bodies.Body → Declaration
plain_body (body.One p) = record { head_names = 0; head = []; conds = []; parts = plain_part p ∷ [] }
plain_body (body.Split h ps) = record { head_names = length h.names; head = map query_of h.queries; conds = h.conds; parts = map plain_part ps }

-- a head of the program, without the parts
abbrev pub plain_head : heads.Head → Declaration
plain_head h = record { head_names = length h.names; head = map query_of h.queries; conds = h.conds; parts = [] }
