-- The built-in format in which a matrix file is held: a list of rows and columns.
use Rattle.std.specs.Prelude.{[], ◌∷◌}
use Rattle.us_expr.specs.Tree.{RowIndex, ColIndex}
use Rattle.us_decl.specs.Declares.{Declared, Undivided}

-- format entry { map (i, j) trim 0, 1 }
abbrev pub entry_format : Declared
entry_format = record {
  name = 101 ∷ 110 ∷ 116 ∷ 114 ∷ 121 ∷ [];
  body = Undivided (record { names = []; queries = []; levels = RowIndex ∷ ColIndex ∷ []; trim = 0 ∷ 1 ∷ []; merge = []; packs = [] });
}
