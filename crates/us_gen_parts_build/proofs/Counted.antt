-- What counting the queries of a part leaves is what its buffers are built from.
use Rattle.std.proofs.Common.{◌≡◌, ℕ, zero, suc, ◌+◌, ◌*◌, ◌<◌, ◌≤◌, List, [], ◌∷◌, ◌++◌, map, length, take, drop, Bool, true, false, cond, eqb, Some, sym, refl, ap, ap₂, ◌∙◌, subst, arith, filter, All}
use Rattle.std.specs.Prelude.{get_or}
use Rattle.std.proofs.Math.Seq.{take-append_seam, drop-append_seam}
use Rattle.std.proofs.lemmas.List.{map-append, length-append}
use Rattle.std.proofs.lemmas.List.FromFn.{length-map-range_with_len, get_or-map-range_with_len}
use Rattle.std.proofs.lemmas.List.Sums.{length-filter}
use Rattle.us_format.specs.Lists.{among}
use Rattle.us_format.specs.Declaration.{Query, SumOf, Enumerate, Reorder, Schedule, Part, defines, has_extent, has_table}
use Rattle.us_format.specs.Packs.{written}
use Rattle.us_format.specs.Buffers.{extent_buffer, table_buffer}
use Rattle.us_format.specs.Reading.{extent_count}
use Rattle.us_code.specs.declared.pieces.Columns.{Columns}
use Rattle.us_code.specs.Typing.{Context, is_some}
use Rattle.us_gen_query.specs.Counting.{one_word}
use Rattle.us_gen_query.specs.Filling.{column, width, words}
use Rattle.us_gen_counting.specs.Phases.{extents, tables, buffers, variable_column, column_of}
use Rattle.us_gen_counting.specs.Answers.{Answers}
use Rattle.us_gen_counting.specs.Rooms.{SeesAnswer}
use Rattle.us_gen_counting.proofs.Apart.{buffers_are_new}
use Rattle.us_gen_parts_build.specs.Counted.{CountedIsGiven}

many-extents : (qs : List Query) (n : ℕ) → length (extents qs n) ≡ length (filter has_extent qs)
many-extents [] n = refl
many-extents (q ∷ qs) n = go (has_extent q) (many-extents qs (n + 64))
  where
    go : (b : Bool) → length (extents qs (n + 64)) ≡ length (filter has_extent qs)
        → length (cond b ((n + 3) ∷ extents qs (n + 64)) (extents qs (n + 64))) ≡ length (cond b (q ∷ filter has_extent qs) (filter has_extent qs))
    go true h = ap suc h
    go false h = h

many-tables : (qs : List Query) (n : ℕ) → length (tables qs n) ≡ length (filter has_table qs)
many-tables [] n = refl
many-tables (q ∷ qs) n = go (has_table q) (many-tables qs (n + 64))
  where
    go : (b : Bool) → length (tables qs (n + 64)) ≡ length (filter has_table qs)
        → length (cond b ((n + 11) ∷ tables qs (n + 64)) (tables qs (n + 64))) ≡ length (cond b (q ∷ filter has_table qs) (filter has_table qs))
    go true h = ap suc h
    go false h = h

extents-number : (p : Part) (n : ℕ) → extent_count p ≡ length (extents p.queries n)
extents-number p n = sym (many-extents p.queries n ∙ length-filter has_extent p.queries)

-- the column of a variable is one of the entries or of the queries
own-low : (q : Query) (v n : ℕ) → variable_column q v n < n + 64
own-low (SumOf w e) v n = omega arith
own-low (Enumerate w e) v n = omega arith
own-low (Reorder w e) v n = omega arith
own-low (Schedule l u e lanes) v n = go (eqb v l)
  where
    go : (b : Bool) → cond b (n + 2) (n + 5) < n + 64
    go true = omega arith
    go false = omega arith

column-low : (qs : List Query) (v n d high : ℕ) → d < high → n + 64 * length qs ≤ high → column_of qs v n d < high
column-low [] v n d high lt le = lt
column-low (q ∷ qs) v n d high lt le =
    go (among v (defines q)) (omega (arith, own-low q v n, le)) (column-low qs v (n + 64) d high lt (omega (arith, le)))
  where
    go : (b : Bool) → variable_column q v n < high → column_of qs v (n + 64) d < high → cond b (variable_column q v n) (column_of qs v (n + 64) d) < high
    go true a c = a
    go false a c = c

pub counted-is-given : CountedIsGiven
counted-is-given = record {
  held = λ w s p out m es n h matrix rows cols few small. record {
    matrix = matrix;
    rows = rows;
    cols = cols;
    entries = h.entries;
    variables = h.variables;
    buffers =
        map-append w.bufs (extents p.queries n) (tables p.queries n) ∙ ap₂ (λ xs ys. xs ++ ys) h.extents_held h.tables_held
        ∙ sym (map-append written (map (extent_buffer m s) (filter has_extent p.queries)) (map (table_buffer m s) (filter has_table p.queries)));
    few = few;
    small = small;
  };
  seen = λ g p out n h. record {
    columns = record { count = h.columns.count; columns = columns-seen g p out n h };
    values = h.columns.v;
    extents =
        subst (λ (xs : List ℕ). All (λ b. g.bufs b ≡ Some one_word) xs)
        (sym (ap (λ (k : ℕ). take k (buffers p.queries n)) (extents-number p n) ∙ take-append_seam (extents p.queries n) (tables p.queries n))) h.extents_seen;
    tables =
        subst (λ (xs : List ℕ). All (λ b. is_some (g.bufs b) ≡ true) xs)
        (sym (ap (λ (k : ℕ). drop k (buffers p.queries n)) (extents-number p n) ∙ drop-append_seam (extents p.queries n) (tables p.queries n))) h.tables_seen;
  };
  named = λ p cs out n high a count i j v le.
      let new = buffers_are_new p.queries n in
      let many : length out.vars.items ≡ p.names = ap (λ (xs : List ℕ). length xs) a.vars ∙ length-map-range_with_len (λ k. column_of p.queries k n cs.i) 0 p.names in
      record {
        variables = many;
        columns = columns-low p cs out n high a i j le many;
        count = subst (λ (k : ℕ). k < high) (sym a.count) (omega (arith, count, le));
        values = subst (λ (k : ℕ). k < high) (sym a.v) (omega (arith, v, le));
        buffers =
            length-append (extents p.queries n) (tables p.queries n)
            ∙ ap₂ (λ x y. x + y) (many-extents p.queries n ∙ length-filter has_extent p.queries) (many-tables p.queries n ∙ length-filter has_table p.queries);
        low = λ b h. omega (arith, (new.own b h).1, le);
        once = new.once;
      };
}
  where
    columns-seen : (g : Context) (p : Part) (out : Columns) (n : ℕ) → SeesAnswer g out p.queries n → (c : ℕ) → c < width out → g.bufs (column out c) ≡ Some (words out)
    columns-seen g p out n h zero lt = h.columns.i
    columns-seen g p out n h (suc zero) lt = h.columns.j
    columns-seen g p out n h (suc (suc v)) lt = h.variables v (omega (arith, lt))

    columns-low : (p : Part) (cs out : Columns) (n high : ℕ) → Answers cs p.queries p.names n out → cs.i < n → cs.j < n → n + 64 * length p.queries ≤ high → length out.vars.items ≡ p.names
        → (c : ℕ) → c < width out → column out c < high
    columns-low p cs out n high a i j le many zero lt = subst (λ (k : ℕ). k < high) (sym a.i) (omega (arith, i, le))
    columns-low p cs out n high a i j le many (suc zero) lt = subst (λ (k : ℕ). k < high) (sym a.j) (omega (arith, j, le))
    columns-low p cs out n high a i j le many (suc (suc v)) lt =
        let lv : v < p.names = omega (arith, lt, many) in
        subst (λ (k : ℕ). k < high)
        (sym (ap (λ (xs : List ℕ). get_or xs v 0) a.vars ∙ get_or-map-range_with_len (λ k. column_of p.queries k n cs.i) 0 p.names v v 0 lv (omega arith)))
        (column-low p.queries v n cs.i high (omega (arith, i, le)) le)
