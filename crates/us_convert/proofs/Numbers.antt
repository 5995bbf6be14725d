-- The numbers of columns that are selected.
use Rattle.std.proofs.Common.{ℕ, ◌<◌, ◌≤◌, arith, inl, inr}
use Rattle.us_code.specs.declared.pieces.Columns.{Columns}
use Rattle.us_gen_queries.specs.Meaning.{IsGivenOrNew, AreGivenOrNew}
use Rattle.us_convert.specs.Own.{AreBelow}

lower : (given low high x : ℕ) → IsGivenOrNew given low high x → given < low → low ≤ high → x < high
lower given low high x (inl e) l h = omega (arith, e, l, h)
lower given low high x (inr p) l h = p.1

pub selected-below : (cs to : Columns) (low high : ℕ) → low ≤ high → AreBelow cs low → AreGivenOrNew cs low high to → AreBelow to high
selected-below cs to low high le b own = record {
  count = lower cs.count low high to.count own.count b.count le;
  i = lower cs.i low high to.i own.i b.i le;
  j = lower cs.j low high to.j own.j b.j le;
  v = lower cs.v low high to.v own.v b.v le;
}

pub below-later : (cs : Columns) (low high : ℕ) → low ≤ high → AreBelow cs low → AreBelow cs high
below-later cs low high le b = record { count = omega (arith, b.count, le); i = omega (arith, b.i, le); j = omega (arith, b.j, le); v = omega (arith, b.v, le) }
