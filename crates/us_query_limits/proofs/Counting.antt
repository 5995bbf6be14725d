-- Blocks that count over the entries in the order of a value keep the limits.
use Rattle.std.proofs.Common.{ℕ, ◌^◌, ◌<◌, ◌≤◌, Bool, true, false, cond, eqb, List, [], ◌∷◌, length, lit≤}
use Rattle.us_code.specs.declared.program.Buf.{Buf}
use Rattle.us_code.specs.declared.program.Buf.TheVariants as buf
use Rattle.us_code.specs.declared.pieces.Columns.{Columns}
use Rattle.us_gen_query.specs.Counting.{row_major, sum, enumerate}
use Rattle.us_limits.specs.Small.{Small}
use Rattle.us_query_limits.proofs.Words.{register, nothing, no-value, difference, length-of}

-- an order has two or three keys
record AreKeys (keys : List Buf) : Type 0 where
  some : 1 ≤ length keys
  few : length keys ≤ 4095

keys-are : (cs : Columns) (b : ℕ) → AreKeys (row_major cs b)
keys-are cs b = either (eqb b cs.i) (eqb b cs.j)
  where
    either : (i j : Bool) → AreKeys (cond i (buf.New b ∷ buf.New cs.j ∷ []) (cond j (buf.New b ∷ buf.New cs.i ∷ []) (buf.New b ∷ buf.New cs.i ∷ buf.New cs.j ∷ [])))
    either true j = record { some = lit≤ tt; few = lit≤ tt }
    either false true = record { some = lit≤ tt; few = lit≤ tt }
    either false false = record { some = lit≤ tt; few = lit≤ tt }

pub sum-keeps : (cs : Columns) (k p z t n : ℕ) → cs.count < 2 ^ 32 → Small 17 3 (sum cs k p z t n)
sum-keeps cs k p z t n named = record {
  terms = (lit≤ tt, lit≤ tt, (no-value, (nothing, (named, (register, (register, (register, register, tt, (register, (register, tt)), (register, register, (register, named, (register, length-of, tt), tt, tt))))), (named, (register, (register, named, (register, (register, register, tt)), tt, tt)), tt)))));
  deep = lit≤ tt;
  long = lit≤ tt;
}

pub enumerate-keeps : (cs : Columns) (k p z w n : ℕ) → cs.count < 2 ^ 32 → Small 17 3 (enumerate cs k p z w n)
enumerate-keeps cs k p z w n named = record {
  terms = (
    (keys-are cs k).some,
    (keys-are cs k).few,
    (no-value, (nothing, (nothing, (named, (register, (register, (register, register, tt, (register, (register, tt)), (register, difference, (register, length-of, (length-of, tt), tt, tt))))), (nothing, register, tt))))),
  );
  deep = lit≤ tt;
  long = lit≤ tt;
}
