-- A matrix of the program as the definitions see it.
use Rattle.std.specs.Prelude.{List, map}
use Rattle.us_matrix.specs.Map.{Map}
use Rattle.us_matrix.specs.declared.matrix.Triple.{Triple}
use Rattle.us_matrix.specs.declared.shape.Shape as code
use Rattle.us_format.specs.Matrix.{Shape, Entry}

abbrev pub plain_shape : code.Shape → Shape
plain_shape s = record { rows = s.rows; cols = s.cols }

abbrev pub plain_entry : Triple → Entry
plain_entry t = record { i = t.i; j = t.j; v = t.v }

abbrev pub plain_entries : List Triple → List Entry
plain_entries ts = map plain_entry ts

-- the shape and the entries of a matrix
abbrev pub shape_in : Map → Shape
shape_in m = record { rows = m.rows; cols = m.cols }

abbrev pub entries_in : Map → List Entry
entries_in m = plain_entries m.entries
