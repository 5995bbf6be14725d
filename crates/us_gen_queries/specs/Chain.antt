-- How the pieces follow one another.
use Rattle.std.specs.Prelude.{◌≡◌, ℕ, ◌≤◌, List, slice_get, Some}
use Rattle.std.specs.List.{filter}
use Rattle.us_code.specs.declared.pieces.Columns.{Columns}
use Rattle.us_code.specs.Runs.{World}
use Rattle.us_format.specs.Matrix.{Entry, Shape}
use Rattle.us_format.specs.Declaration.{Part, Declaration}
use Rattle.us_format.specs.Buffers.{parts_of, size}
use Rattle.us_gen.specs.Goes.{Keeps}
use Rattle.us_query_loops.specs.Chosen.{goes_to}
use Rattle.us_gen_counting.specs.Runs.{IsGiven, tables_share}
use Rattle.us_gen_counting.specs.Selects.{HoldsPart}
use Rattle.us_gen_queries.specs.Meaning.{AreGivenOrNew}
use Rattle.us_gen_queries.specs.Plain.{bare}

-- columns that hold entries still do behind what changes only what has a number from low on
abbrev pub GivenStays : Type 0
GivenStays =
    (w u : World) (cs : Columns) (s : Shape) (m es : List Entry) (n low : ℕ) → IsGiven w cs s m es n → n ≤ low → Keeps low w u
    → IsGiven u cs s m es low

-- the columns of the k-th part hold a matrix of their own
abbrev pub SelectedAreGiven : Type 0
SelectedAreGiven =
    (w u : World) (s : Shape) (d : Declaration) (cs to : Columns) (m es : List Entry) (k n high : ℕ) → IsGiven w (bare cs) s m es n → n ≤ high
    → AreGivenOrNew cs n high to → HoldsPart u s d to m es k → IsGiven u (bare to) s (filter (goes_to m s d k) m) (filter (goes_to m s d k) es) high

-- the cells of a part's tables are a part of the size
abbrev pub TablesAreWithin : Type 0
TablesAreWithin =
    (s : Shape) (d : Declaration) (m es : List Entry) (p : Part) (k : ℕ) → slice_get (parts_of s d m) k ≡ Some (p, es)
    → tables_share es s p.queries ≤ size s d m
