-- The pieces follow one another.
use Rattle.std.proofs.Common.{◌≡◌, ℕ, ◌<◌, ◌≤◌, List, [], ◌∷◌, ◌++◌, map, filter, sum_by, refl, subst, ◌∙◌, inl, inr, arith}
use Rattle.std.proofs.lemmas.List.Sums.{length-filter, count_by-le-length, sum_by-append, sum_by-cons}
use Rattle.us_format.specs.Matrix.{Entry, Shape}
use Rattle.us_format.specs.Declaration.{Query, SumOf, Enumerate, Reorder, Schedule, Part, has_extent, has_table}
use Rattle.us_format.specs.Packs.{Buffer, packed}
use Rattle.us_format.specs.Buffers.{extent_buffer, table_buffer, piece_buffers, part_buffers, all_buffers, parts_of}
use Rattle.us_format.proofs.Order.{Mem}
use Rattle.us_format.proofs.Members.{item-Mem}
use Rattle.us_format.proofs.Shares.{matrix-filter}
use Rattle.us_query_loops.specs.Chosen.{goes_to}
use Rattle.us_gen_counting.specs.Runs.{tables_share}
use Rattle.us_gen_queries.specs.Meaning.{IsGivenOrNew}
use Rattle.us_gen_queries.specs.Chain.{GivenStays, SelectedAreGiven, TablesAreWithin}

pub given_stays : GivenStays
given_stays w u cs s m es n low g le keeps = record {
  matrix = g.matrix;
  rows = g.rows;
  cols = g.cols;
  few = g.few;
  held = record {
    shuffled = g.held.shuffled;
    count = keeps.dims cs.count (omega (arith, g.count, le)) ∙ g.held.count;
    rows = keeps.bufs cs.i (omega (arith, g.i, le)) ∙ g.held.rows;
    cols = keeps.bufs cs.j (omega (arith, g.j, le)) ∙ g.held.cols;
    values = keeps.bufs cs.v (omega (arith, g.v, le)) ∙ g.held.values;
  };
  plain = g.plain;
  count = omega (arith, g.count, le);
  i = omega (arith, g.i, le);
  j = omega (arith, g.j, le);
  v = omega (arith, g.v, le);
}

-- below the end
lower : (given low high x : ℕ) → IsGivenOrNew given low high x → given < low → low ≤ high → x < high
lower given low high x (inl e) l h = omega (arith, e, l, h)
lower given low high x (inr p) l h = p.1

pub selected_are_given : SelectedAreGiven
selected_are_given w u s d cs to m es k n high g le own held = record {
  matrix = matrix-filter s (goes_to m s d k) m g.matrix;
  rows = g.rows;
  cols = g.cols;
  few = omega (arith, length-filter (goes_to m s d k) es, count_by-le-length (goes_to m s d k) es, g.few);
  held = record { shuffled = held.entries.shuffled; count = held.entries.count; rows = held.entries.rows; cols = held.entries.cols; values = held.entries.values };
  plain = refl;
  count = lower cs.count n high to.count own.count g.count le;
  i = lower cs.i n high to.i own.i g.i le;
  j = lower cs.j n high to.j own.j g.j le;
  v = lower cs.v n high to.v own.v g.v le;
}

-- ---- tables

abbrev cells : List Buffer → ℕ
cells bs = sum_by (λ (b : Buffer). b.len) bs

tables_sum : (m : List Entry) (s : Shape) (qs : List Query) → tables_share m s qs ≡ cells (map (table_buffer m s) (filter has_table qs))
tables_sum m s [] = refl
tables_sum m s (SumOf v e ∷ qs) = omega (arith, tables_sum m s qs)
tables_sum m s (Enumerate v e ∷ qs) = omega (arith, tables_sum m s qs)
tables_sum m s (Reorder v e ∷ qs) =
    omega (arith, tables_sum m s qs, sum_by-cons (λ (b : Buffer). b.len) (table_buffer m s (Reorder v e)) (map (table_buffer m s) (filter has_table qs)))
tables_sum m s (Schedule l u e n ∷ qs) =
    omega (arith, tables_sum m s qs, sum_by-cons (λ (b : Buffer). b.len) (table_buffer m s (Schedule l u e n)) (map (table_buffer m s) (filter has_table qs)))

tables_of_part : (s : Shape) (p : Part) (m : List Entry) → tables_share m s p.queries ≤ cells (part_buffers s p m)
tables_of_part s p m =
    omega (
      arith,
      tables_sum m s p.queries,
      sum_by-append (λ (b : Buffer). b.len) (map (extent_buffer m s) (filter has_extent p.queries)) (map (table_buffer m s) (filter has_table p.queries) ++ packed p (piece_buffers s p m)),
      sum_by-append (λ (b : Buffer). b.len) (map (table_buffer m s) (filter has_table p.queries)) (packed p (piece_buffers s p m)),
    )

part_of_all : (s : Shape) (ys : List (Part × List Entry)) (x : Part × List Entry) → Mem x ys → cells (part_buffers s x.0 x.1) ≤ cells (all_buffers s ys)
part_of_all s [] x h = absurd h
part_of_all s (y ∷ ys) x (inl e) =
    subst (λ (z : Part × List Entry). cells (part_buffers s z.0 z.1) ≤ cells (all_buffers s (y ∷ ys))) e
    (omega (arith, sum_by-append (λ (b : Buffer). b.len) (part_buffers s y.0 y.1) (all_buffers s ys)))
part_of_all s (y ∷ ys) x (inr h) = omega (arith, sum_by-append (λ (b : Buffer). b.len) (part_buffers s y.0 y.1) (all_buffers s ys), part_of_all s ys x h)

pub tables_are_within : TablesAreWithin
tables_are_within s d m es p k e =
    omega (arith, tables_of_part s p es, part_of_all s (parts_of s d m) (p, es) (item-Mem (parts_of s d m) k (p, es) e))
