-- The columns of the levels of a part hold the coordinates of its entries.
use Rattle.std.specs.Prelude.{◌≡◌, ℕ, ◌+◌, ◌*◌, ◌^◌, ◌<◌, ◌≤◌, List, [], ◌∷◌, map, length, All, ℤ, pos, IsTrue, Contains}
use Rattle.us_code.specs.declared.pieces.Columns.{Columns}
use Rattle.us_code.specs.Runs.{World, phases}
use Rattle.us_expr.specs.Tree.{Tree, node_count}
use Rattle.us_expr.specs.Value.{IsIndex}
use Rattle.us_format.specs.Lists.{among}
use Rattle.us_format.specs.Matrix.{Entry, Shape, IsMatrixOf}
use Rattle.us_format.specs.Declaration.{Part, defined}
use Rattle.us_format.specs.Queries.{variable_at, extents_of}
use Rattle.us_format.specs.Coordinates.{coordinate, level_range, span}
use Rattle.us_format.specs.Reading.{limit}
use Rattle.us_format.specs.Rules.{IsLawful}
use Rattle.us_gen.specs.Goes.{Leads}
use Rattle.us_gen_query.specs.Filling.{column, width}
use Rattle.us_gen_counting.specs.Entries.{HoldEntries, HoldVariables}
use Rattle.us_gen_coordinates.specs.Phase.{columns_for, coordinates_phase}

-- the low ends of the levels
abbrev pub lows_of : Shape → Part → List Entry → List ℤ
lows_of s p m = map (λ e. (level_range s (extents_of m s p) p e).lo) p.levels

-- columns with numbers below n hold the entries of a lawful part in the order es and all variables, which are numbers that an index may be
pub record IsReadable (w : World) (cs : Columns) (s : Shape) (p : Part) (m es : List Entry) (n : ℕ) : Type 0 where
  pub lawful : IsLawful p
  pub matrix : IsMatrixOf s m
  pub rows : s.rows < 2 ^ 31
  pub cols : s.cols < 2 ^ 31
  pub few : length es ≤ limit
  pub entries : HoldEntries w.env w.bufs cs m es
  pub variables : HoldVariables w.bufs cs s m es p.queries
  pub names : length cs.vars.items ≡ p.names
  pub named : (v : ℕ) → v < p.names → IsTrue (among v (defined p.queries))
  pub indices : (v : ℕ) (x : Entry) → v < p.names → Contains m x → IsIndex (variable_at m s p.queries v x)
  pub short : All (λ e. node_count e ≤ 32) p.levels
  pub sizes : All (λ e. span (level_range s (extents_of m s p) p e) ≤ 2 ^ 62) p.levels
  pub below : (c : ℕ) → c < width cs → column cs c < n

-- for each level a column, numbered below f, that holds the coordinates of the entries there
abbrev pub HoldLevels : (ℕ → List ℤ) → ℕ → Shape → Part → List Entry → List Entry → List ℕ → List Tree → Type 0
HoldLevels bufs f s p m es [] [] = Unit {0}
HoldLevels bufs f s p m es [] (e ∷ exprs) = ⊥
HoldLevels bufs f s p m es (c ∷ names) [] = ⊥
HoldLevels bufs f s p m es (c ∷ names) (e ∷ exprs) =
    (c < f) × (bufs c ≡ map (λ x. pos (coordinate m s p x e)) es) × HoldLevels bufs f s p m es names exprs

-- behind the phase the columns of the levels hold the coordinates of the entries in that order
abbrev pub CoordinatesHeld : Type 0
CoordinatesHeld =
    (w : World) (cs : Columns) (s : Shape) (p : Part) (m es : List Entry) (n : ℕ) → IsReadable w cs s p m es n
    → Leads n (length p.levels + length p.levels * (2 + 21 * length es)) w (phases (coordinates_phase cs p.levels (lows_of s p m) n ∷ []) w)
    (λ u. HoldLevels u.bufs (n + 40 * length p.levels) s p m es (columns_for cs p.levels (lows_of s p m) n) p.levels)
