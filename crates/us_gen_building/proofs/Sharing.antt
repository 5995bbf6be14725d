-- A part whose share of the size is within the limit has small numbers.
use Rattle.std.proofs.Common.{◌≡◌, ℕ, ◌+◌, ◌*◌, ◌^◌, ◌<◌, ◌≤◌, List, [], ◌∷◌, true, refl, ap, arith}
use Rattle.std.specs.List.{sum_by, sum}
use Rattle.std.proofs.Math.Nat.{mul-le-mul_left}
use Rattle.std.proofs.lemmas.Nat.{mul-add-lt}
use Rattle.std.proofs.lemmas.List.Sums.{sum_by-append, sum_by-cons}
use Rattle.us_format.specs.declared.Kind.{Kind}
use Rattle.us_format.specs.declared.Kind.TheVariants.{Full, Compressed, Listed, Slot}
use Rattle.us_format.specs.Kinds.{Level}
use Rattle.us_format.specs.Positions.{Row, rows_of, nodes, count_below, down, counts}
use Rattle.us_format.specs.Packs.{Buffer}
use Rattle.us_format.specs.Buffers.{pos_buffer, crd_buffer, buffers_at, level_buffers}
use Rattle.us_format.specs.Reading.{limit}
use Rattle.us_format_loops.specs.Laws.{levels_on}
use Rattle.us_format_loops.specs.Nodes.{has_nodes}
use Rattle.us_gen_building.specs.Runs.{AreSmall}
use Rattle.us_gen_building.specs.Shares.{AreNarrow, SharesAreSmall}

abbrev length_of : Buffer → ℕ
length_of b = b.len

abbrev cells : List Level → ℕ → List Row → ℕ
cells ls n rows = sum_by length_of (level_buffers ls n rows)

two_cells : (a b : Buffer) (n : ℕ) → a.len ≡ n + 1 → n + 1 ≤ sum_by length_of (a ∷ b ∷ [])
two_cells a b n e = omega (arith, e, sum_by-cons length_of a (b ∷ []))

-- a level with nodes has a cell for each position above and one
level_cells : (k : Kind) (size n : ℕ) (rows : List Row) → has_nodes k ≡ true → n + 1 ≤ sum_by length_of (buffers_at k size n rows)
level_cells Full size n rows h = absurd cc
level_cells Compressed size n rows h = two_cells (pos_buffer (nodes Compressed rows) n) (crd_buffer Compressed size n rows) n refl
level_cells Listed size n rows h = two_cells (pos_buffer (nodes Listed rows) n) (crd_buffer Listed size n rows) n refl
level_cells Slot size n rows h = absurd cc

cells_split : (l : Level) (ls : List Level) (n : ℕ) (rows : List Row)
    → cells (l ∷ ls) n rows ≡ sum_by length_of (buffers_at l.kind l.size n rows) + cells ls (count_below l.kind l.size n rows) (down l.kind l.size rows)
cells_split l ls n rows = sum_by-append length_of (buffers_at l.kind l.size n rows) (level_buffers ls (count_below l.kind l.size n rows) (down l.kind l.size rows))

counts_split : (l : Level) (ls : List Level) (n : ℕ) (rows : List Row) → sum (counts (l ∷ ls) n rows) ≡ count_below l.kind l.size n rows + sum (counts ls (count_below l.kind l.size n rows) (down l.kind l.size rows))
counts_split l ls n rows = sum_by-cons (λ x. x) (count_below l.kind l.size n rows) (counts ls (count_below l.kind l.size n rows) (down l.kind l.size rows))

narrow_pair : (n size q c : ℕ) → n ≤ 33554432 → size < 2 ^ 38 → q < n → c < size → q * size + c < 2 ^ 63
narrow_pair n size q c few narrow hq hc =
    let a : q * size + c < size * n = mul-add-lt q size c n hq hc in
    let b : size * n ≤ size * 33554432 = mul-le-mul_left size few in
    omega (arith, a, b, narrow)

small_more : (ls : List Level) (n : ℕ) (rows : List Row) → AreNarrow ls → n + (cells ls n rows + sum (counts ls n rows)) ≤ limit → AreSmall ls n rows
small_more [] n rows w h = omega (arith, h)
small_more (l ∷ ls) n rows w h =
    let m : ℕ = count_below l.kind l.size n rows in
    let a = cells_split l ls n rows in
    let b = counts_split l ls n rows in (
      record {
        number = omega (arith, h);
        starts = λ e. omega (arith, h, a, level_cells l.kind l.size n rows e);
        pairs = λ e q c hq hc. narrow_pair n l.size q c (omega (arith, h, a, level_cells l.kind l.size n rows (ap has_nodes e))) (w.0 e) hq hc;
      },
      small_more ls m (down l.kind l.size rows) w.1 (omega (arith, h, a, b)),
    )

small_top : (ls : List Level) (rows : List Row) → AreNarrow ls → cells ls 1 rows + sum (counts ls 1 rows) ≤ limit → AreSmall ls 1 rows
small_top [] rows w h = omega arith
small_top (l ∷ ls) rows w h = (
  record {
    number = omega arith;
    starts = λ e. omega arith;
    pairs = λ e q c hq hc. narrow_pair 1 l.size q c (omega arith) (w.0 e) hq hc;
  },
  small_more ls (count_below l.kind l.size 1 rows) (down l.kind l.size rows) w.1 (omega (arith, h, cells_split l ls 1 rows, counts_split l ls 1 rows)),
)

pub shares_are_small : SharesAreSmall
shares_are_small s p m w h = small_top (levels_on s p m) (rows_of m s p) w h
