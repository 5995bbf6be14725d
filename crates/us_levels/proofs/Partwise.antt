-- What a comparison of the lists of a part says, list after list.
use Rattle.std.specs.List.{filter, list_any, sum}
use Rattle.std.specs.Option.{is_some}
use Rattle.std.proofs.Common.{◌≡◌, ℕ, ◌+◌, ◌^◌, ◌<◌, ◌≤◌, ℤ, List, [], ◌++◌, map, length, drop, true, false, sym, ap, ap₂, subst, ◌∙◌, arith, All, Option, None}
use Rattle.std.proofs.lemmas.List.{get_or-drop, length-map, map-append}
use Rattle.std.proofs.lemmas.List.Sums.{count_by-le-length}
use Rattle.us_expr.specs.declared.queries.Query.{Query as QueryCode}
use Rattle.us_matrix.specs.Map.{Map}
use Rattle.us_decl.specs.declared.decl.Part as held
use Rattle.us_format.specs.Buffers.{extent_buffer, part_buffers, piece_buffers, table_buffer}
use Rattle.us_format.specs.Declaration.{Part, has_extent, has_table, query_of}
use Rattle.us_format.specs.Kinds.{levels_of}
use Rattle.us_format.specs.Lists.{nth, or_else}
use Rattle.us_format.specs.Matrix.{Entry, Shape}
use Rattle.us_format.specs.Packs.{packed, written}
use Rattle.us_format.specs.Program.{entries_in, plain_entry, shape_in}
use Rattle.us_format.specs.Queries.{extent_of}
use Rattle.us_format.specs.Reading.{counts_in, extent_count, extent_tests, extents_in, limit, part_tests, table_count, table_tests, walk}
use Rattle.us_format.proofs.Fits.{AllPass}
use Rattle.us_format.proofs.Places.{extents-number, tables-number}
use Rattle.us_judge.specs.Views.{plain_part}
use Rattle.us_variables.specs.Counted.{AreVariables, IsCountable, tables_in}
use Rattle.us_variables.specs.declared.variables.Variables.{Variables}
use Rattle.us_parts.specs.Cells.{extent_lists, has_long_axis, table_lists}
use Rattle.us_parts.proofs.Counting.{extents-are, tables-are}
use Rattle.us_parts.proofs.Storing.{countable, extents-long as lists-long, extents-small}
use Rattle.us_levels.specs.declared.differing.Difference.{Difference}
use Rattle.us_levels.specs.Comparable.{IsComparable, IsStoredFrom}
use Rattle.us_levels.specs.Differences.{part_difference, stored_difference}
use Rattle.us_levels.specs.Lists.{lists_difference}
use Rattle.us_levels.proofs.Agreeing.{StandFrom}
use Rattle.us_levels.proofs.Asked.{extents-long, extents-same, none-fail, none-long, pass-split, tables-few}
use Rattle.us_levels.proofs.Unlike.{differences-append, differences-written, none-is, some-first}

-- ---- where the levels begin

-- behind the lists of the queries stand those of the levels
pub stored-stand : (k : ℕ) (s : Shape) (p : Part) (m : List Entry) (bufs : List (List ℤ)) (c : IsStoredFrom k s p m bufs) → StandFrom p k (drop c.first bufs) bufs
stored-stand k s p m bufs c = record {
  at = λ j. get_or-drop c.first bufs (extent_count p + table_count p + j) [] ∙ ap (nth bufs) (omega (arith, c.behind));
}

-- ---- a part

module _ (part : held.Part) (mx : Map) (first : ℕ) (bufs : List (List ℤ)) (c : IsComparable (shape_in mx) (plain_part part) (entries_in mx) (drop first bufs)) where
  abbrev p : Part
  p = plain_part part

  abbrev s : Shape
  s = shape_in mx

  abbrev m : List Entry
  m = entries_in mx

  abbrev there : List (List ℤ)
  there = drop first bufs

  abbrev read_extents : List ℕ
  read_extents = extents_in 0 there p.queries

  table-pass : AllPass (table_tests s (extent_count p) there p.queries read_extents)
  table-pass =
      (pass-split (table_tests s (extent_count p) there p.queries read_extents) (walk p there 0 (levels_of s read_extents p) 1)
      (pass-split (extent_tests 0 there p.queries) (table_tests s (extent_count p) there p.queries read_extents ++ walk p there 0 (levels_of s read_extents p) 1) (none-fail (part_tests s p there) c.fitting)).1).0

  no-long : list_any (has_long_axis s) (map query_of part.queries) ≡ false
  no-long = none-long s there c.cells (extent_count p) p.queries read_extents (extents-long 0 there p.queries) table-pass

  pub few-triples : length mx.entries ≤ limit
  few-triples = omega (arith, c.few, length-map mx.entries plain_entry)

  pub all-countable : All (λ q. IsCountable s (query_of q)) part.queries
  all-countable = countable part mx c.storable no-long

  -- the lists of the queries
  abbrev extents : List (List ℤ)
  extents = extent_lists p.queries (map (extent_of m s) p.queries)

  abbrev tables : List (List ℤ)
  tables = table_lists p.queries (map (λ q. written (table_buffer m s q)) p.queries)

  extents-count : length extents ≡ extent_count p
  extents-count =
      ap length (extents-are m s p.queries) ∙ length-map (map (extent_buffer m s) (filter has_extent p.queries)) written ∙ extents-number s p m c.storable.packs []

  tables-count : length tables ≡ table_count p
  tables-count =
      ap length (tables-are m s p.queries) ∙ length-map (map (table_buffer m s) (filter has_table p.queries)) written ∙ tables-number s p m c.storable.packs []

  few-extents : length extents ≤ 16
  few-extents = omega (arith, extents-count, count_by-le-length has_extent p.queries, c.short.queries)

  few-tables : length tables ≤ 16
  few-tables = omega (arith, tables-count, count_by-le-length has_table p.queries, c.short.queries)

  -- the buffers of the part, list after list
  whole : part_difference first s p m bufs
      ≡ or_else (lists_difference first extents bufs) (or_else (lists_difference (first + length extents) tables bufs) (stored_difference (first + length extents + length tables) s p m bufs))
  whole =
      differences-written first (part_buffers s p m) bufs
      ∙ ap (λ (l : List (List ℤ)). lists_difference first l bufs) lists
      ∙ differences-append first extents (tables ++ stored) bufs
      ∙ ap (λ (r : Option Difference). or_else (lists_difference first extents bufs) r)
      (differences-append (first + length extents) tables stored bufs
      ∙ ap (λ (r : Option Difference). or_else (lists_difference (first + length extents) tables bufs) r) (sym (differences-written (first + length extents + length tables) (packed p (piece_buffers s p m)) bufs)))
    where
      stored : List (List ℤ)
      stored = map written (packed p (piece_buffers s p m))

      lists : map written (part_buffers s p m) ≡ extents ++ (tables ++ stored)
      lists =
          map-append written (map (extent_buffer m s) (filter has_extent p.queries)) (map (table_buffer m s) (filter has_table p.queries) ++ packed p (piece_buffers s p m))
          ∙ ap₂ (λ (a b : List (List ℤ)). a ++ b) (sym (extents-are m s p.queries))
          (map-append written (map (table_buffer m s) (filter has_table p.queries)) (packed p (piece_buffers s p m)) ∙ ap (λ (a : List (List ℤ)). a ++ stored) (sym (tables-are m s p.queries)))

  -- ---- what the calls say

  module _ (t : Variables) (vs : AreVariables m s (map query_of part.queries) (length part.names) t) (queries : List QueryCode) (qs : queries ≡ part.queries) where
    pub extents-many : (ns : List ℕ) → ns ≡ t.extents.items → length ns ≡ length queries
    extents-many ns e = ap length e ∙ lists-long part mx c.storable t vs few-triples all-countable ∙ ap length (sym qs)

    pub extents-low : (ns : List ℕ) → ns ≡ t.extents.items → All (λ n. n ≤ 67108864) ns
    extents-low ns e = subst (λ (l : List ℕ). All (λ n. n ≤ 67108864) l) (sym e) (extents-small part mx c.storable t vs few-triples all-countable)

    pub tables-many : length (tables_in t) ≡ length queries
    tables-many =
        ap length vs.tables ∙ length-map (map query_of part.queries) (λ q. written (table_buffer m s q)) ∙ length-map part.queries query_of ∙ ap length (sym qs)

    pub extents-found : (ns : List ℕ) (lists : List (List ℤ)) → ns ≡ t.extents.items → lists ≡ [] ++ extent_lists (map query_of queries) ns → lists ≡ extents
    extents-found ns lists e f =
        f ∙ ap₂ (λ (l : List QueryCode) (z : List ℕ). extent_lists (map query_of l) z) qs (e ∙ vs.extents)

    pub tables-found : (lists : List (List ℤ)) → lists ≡ [] ++ table_lists (map query_of queries) (tables_in t) → lists ≡ tables
    tables-found lists f = f ∙ ap₂ (λ (l : List QueryCode) (z : List (List ℤ)). table_lists (map query_of l) z) qs vs.tables

    pub few-first : (lists : List (List ℤ)) → lists ≡ extents → length lists ≤ 16
    few-first lists is = omega (arith, ap length is, few-extents)

    pub few-second : (more : List (List ℤ)) → more ≡ tables → length more ≤ 16
    few-second more are = omega (arith, ap length are, few-tables)

    module _ (lists : List (List ℤ)) (is : lists ≡ extents) (unlike : Option Difference) (u : unlike ≡ lists_difference first lists bufs) where
      same : unlike ≡ lists_difference first extents bufs
      same = u ∙ ap (λ (l : List (List ℤ)). lists_difference first l bufs) is

      pub part-early : is_some unlike ≡ true → unlike ≡ part_difference first s p m bufs
      part-early h =
          let rest : Option Difference = or_else (lists_difference (first + length extents) tables bufs) (stored_difference (first + length extents + length tables) s p m bufs) in
          some-first unlike rest h ∙ ap (λ (r : Option Difference). or_else r rest) same ∙ sym whole

      module _ (none : is_some unlike ≡ false) where
        agree : lists_difference first extents bufs ≡ None
        agree = sym same ∙ none-is unlike none

        extents-read : read_extents ≡ map (extent_of m s) p.queries
        extents-read = extents-same m s first bufs p.queries agree

        pub tables-low : All (λ cells. length cells ≤ 67108864) (tables_in t)
        tables-low =
            subst (λ (ts : List (List ℤ)). All (λ cells. length cells ≤ 67108864) ts) (sym vs.tables)
            (tables-few s there c.cells m (extent_count p) p.queries (subst (λ (ns : List ℕ). AllPass (table_tests s (extent_count p) there p.queries ns)) extents-read table-pass))

        module _ (more : List (List ℤ)) (are : more ≡ tables) (second count : ℕ) (e : second ≡ first + count) (n : count ≡ length lists) (found : Option Difference) (f : found ≡ lists_difference second more bufs) where
          at : second ≡ first + length extents
          at = omega (arith, e, n, ap length is)

          same-tables : found ≡ lists_difference (first + length extents) tables bufs
          same-tables = f ∙ ap₂ (λ (j : ℕ) (l : List (List ℤ)). lists_difference j l bufs) at are

          left : part_difference first s p m bufs ≡ or_else found (stored_difference (first + length extents + length tables) s p m bufs)
          left =
              whole
              ∙ ap₂ (λ (a b : Option Difference). or_else a (or_else b (stored_difference (first + length extents + length tables) s p m bufs))) agree (sym same-tables)

          pub part-then : is_some found ≡ true → found ≡ part_difference first s p m bufs
          part-then h = some-first found (stored_difference (first + length extents + length tables) s p m bufs) h ∙ sym left

          module _ (nothing : is_some found ≡ false) (base size : ℕ) (b : base ≡ second + size) (k : size ≡ length more) where
            base-is : base ≡ first + length extents + length tables
            base-is = omega (arith, at, b, k, ap length are)

            pub part-last : (d : Option Difference) → d ≡ stored_difference base s p m bufs → d ≡ part_difference first s p m bufs
            part-last d q =
                q ∙ ap (λ (j : ℕ). stored_difference j s p m bufs) base-is
                ∙ sym (left ∙ ap (λ (r : Option Difference). or_else r (stored_difference (first + length extents + length tables) s p m bufs)) (none-is found nothing))

            pub stored-from : IsStoredFrom base s p m bufs
            stored-from = record {
              first = first;
              behind = omega (arith, base-is, extents-count, tables-count);
              kept = c.kept;
              storable = c.storable;
              counts = subst (λ (ns : List ℕ). sum (counts_in p there 0 (levels_of s ns p) 1) ≤ limit) extents-read c.counts;
              few = c.few;
            }

            pub low-base : first < 2 ^ 32 → base < 2 ^ 62
            low-base h = omega (arith, h, base-is, few-extents, few-tables)
