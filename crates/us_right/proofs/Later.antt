-- What stays as it is while later pieces run, or where more is visible.
use Rattle.std.proofs.Common.{◌≡◌, ℕ, ◌<◌, ◌≤◌, Bool, true, false, sym, ap, ◌∙◌, arith, List, ◌⊎◌, inl, inr}
use Rattle.std.proofs.lemmas.Bool.{cases_lt}
use Rattle.us_code.specs.declared.pieces.Columns.{Columns}
use Rattle.us_code.specs.Runs.{World}
use Rattle.us_code.specs.Typing.{Context, is_some}
use Rattle.us_format.specs.Matrix.{Entry, Shape}
use Rattle.us_gen.specs.Goes.{Keeps}
use Rattle.us_gen_query.specs.Filling.{words}
use Rattle.us_gen_counting.specs.Rooms.{RoomFrom, SeesColumns}
use Rattle.us_gen_counting.specs.Runs.{IsGiven}
use Rattle.us_gen_counting.proofs.PhaseFits.{seen_below}
use Rattle.us_gen_counting.proofs.PhaseRuns.{held_later}

-- columns that hold the entries, and more numbers are taken
pub given-later : (w u : World) (cs : Columns) (s : Shape) (m es : List Entry) (n high : ℕ) → n ≤ high → IsGiven w cs s m es n → Keeps n w u → IsGiven u cs s m es high
given-later w u cs s m es n high le g k = record {
  matrix = g.matrix;
  rows = g.rows;
  cols = g.cols;
  few = g.few;
  held = held_later w s cs m es n g u k;
  plain = g.plain;
  count = omega (arith, g.count, le);
  i = omega (arith, g.i, le);
  j = omega (arith, g.j, le);
  v = omega (arith, g.v, le);
}

-- a visible dim has a lower number
pub dim-below : (g : Context) (n d : ℕ) → RoomFrom g n → is_some (g.dims d) ≡ true → d < n
dim-below g n d room seen = go (cases_lt d n)
  where
    go : (d < n) ⊎ (n ≤ d) → d < n
    go (inl lt) = lt
    go (inr le) = let z : ◌≡◌ {A = Bool} false true = sym (ap is_some (room.dims d le)) ∙ seen in absurd cc

pub columns-later : (g h : Context) (cs : Columns) (n : ℕ) → RoomFrom g n → SeesColumns g cs → ((b : ℕ) → b < n → h.bufs b ≡ g.bufs b) → ((d : ℕ) → d < n → h.dims d ≡ g.dims d) → SeesColumns h cs
columns-later g h cs n room seen bufs dims = record {
  count = ap is_some (dims cs.count (dim-below g n cs.count room seen.count)) ∙ seen.count;
  i = bufs cs.i (seen_below g n cs.i (words cs) room seen.i) ∙ seen.i;
  j = bufs cs.j (seen_below g n cs.j (words cs) room seen.j) ∙ seen.j;
  v = bufs cs.v (seen_below g n cs.v (words cs) room seen.v) ∙ seen.v;
}
