-- A storable part can be counted and built.
use Rattle.std.specs.List.{filter, list_any}
use Rattle.std.proofs.Common.{◌≡◌, ℕ, ◌+◌, ◌-◌, ◌<◌, ◌≤◌, List, [], ◌∷◌, ◌++◌, map, length, get_or, Bool, true, false, ltb, not, ℤ, append_assoc, sym, refl, ap, ap₂, ◌∙◌, subst, inl, inr, arith, All}
use Rattle.std.proofs.lemmas.Bool.Decides.{nat_tests}
use Rattle.std.proofs.Math.ListN.{get_or-map as get_or-mapped}
use Rattle.std.proofs.lemmas.List.{append-nil, get_or-map, length-map, map-append}
use Rattle.us_expr.specs.declared.expression.Expr.{Expr}
use Rattle.us_expr.specs.declared.queries.Query.{Query as QueryCode}
use Rattle.us_expr.specs.Tree.{ColIndex, Difference, Number, Quotient, Remainder, RowIndex, Sum, Tree, Variable, node_count, tree}
use Rattle.us_expr.specs.Value.{IsWithin}
use Rattle.us_matrix.specs.Map.{IsMatrix, IsSide, Map}
use Rattle.us_matrix.specs.declared.matrix.Triple.{Triple}
use Rattle.us_matrix.specs.declared.shape.Shape as code
use Rattle.us_format.specs.declared.Kind.{Kind}
use Rattle.us_format.specs.Declaration.{Column, Enumerate, Part, Query, Reorder, Schedule, SumOf, argument, has_extent, has_table, query_of}
use Rattle.us_format.specs.Laws.{unpacked_size}
use Rattle.us_format.specs.Matrix.{Entry, IsMatrixOf, Shape}
use Rattle.us_format.specs.Program.{entries_in, plain_entries, plain_entry, plain_shape, shape_in}
use Rattle.us_format.specs.Buffers.{extent_buffer, level_buffers, part_buffers, piece_buffers, table_buffer}
use Rattle.us_format.specs.Lists.{nth}
use Rattle.us_format.specs.Packs.{Buffer, CellsOf, Piece, PosOf, buffer_of, in_pack, interleaved, is_packed, nothing, packed, pieces, written}
use Rattle.us_format.specs.Positions.{rows_of}
use Rattle.us_format.specs.Queries.{extent_of, extents_of}
use Rattle.us_format.specs.Reading.{limit}
use Rattle.us_format.specs.Rules.{ArePacksLawful, HasLanes, has_lawful_argument, has_variable}
use Rattle.us_format.proofs.Climb.{length-written}
use Rattle.us_format.proofs.FromProgram.{program-matrix}
use Rattle.us_format.proofs.Packs.{AllLong, long-at}
use Rattle.us_format.proofs.PartLaw.{map-map}
use Rattle.us_format.proofs.Pieces.{as-many-buffers, buffers-of-pieces, pieces-distinct}
use Rattle.us_format.proofs.Places.{packs-long}
use Rattle.us_format.proofs.Lawful.{argument-plain}
use Rattle.us_format.proofs.Lookup.{or-false}
use Rattle.us_format.proofs.Members.{Mem-all, all-Mem}
use Rattle.us_format.proofs.Order.{Mem, Mem-map, Mem-of_map}
use Rattle.us_decl.specs.declared.decl.Part as held
use Rattle.us_judge.specs.Kinds.{kinds_of}
use Rattle.us_judge.specs.Views.{plain_part}
use Rattle.us_variables.specs.Counted.{AreVariables, IsCountable, tables_in}
use Rattle.us_variables.specs.declared.variables.Variables.{Variables}
use Rattle.us_build.specs.Pieces.{AreRowsOf, IsBuildable, IsPartOf, piece_size, size_on}
use Rattle.us_build.specs.declared.items.Item.{Item}
use Rattle.us_build.specs.declared.levels.Level.{Level}
use Rattle.us_build.specs.Items.{rows_at}
use Rattle.us_build.specs.Ready.{size_from}
use Rattle.us_build.specs.Sizes.{plain_levels}
use Rattle.us_layout.specs.Arranging.{PacksHaveOneLength, list_of}
use Rattle.us_layout.specs.Interleaving.{HaveOneLength}
use Rattle.us_layout.proofs.Arranged.{same-everywhere, written-buffer_of}
use Rattle.us_build.proofs.Extents.{extent-few}
use Rattle.us_parts.specs.Cells.{extent_lists, has_long_axis, queries_cells, table_lists}
use Rattle.us_parts.specs.Storable.{AreStored, HasFewLanes, IsStorable}
use Rattle.us_parts.proofs.Counting.{cells-are, extents-are, long-above, table-within, tables-are}

-- without variables no name is needed
pub within-none : (n : ℕ) (e : Tree) → has_variable e ≡ false → IsWithin n e → IsWithin 0 e
within-none n RowIndex h w = tt
within-none n ColIndex h w = tt
within-none n (Number c) h w = w
within-none n (Variable v) h w = absurd cc
within-none n (Sum a b) h w = let p = or-false (has_variable a) (has_variable b) h in (within-none n a p.0 w.0, within-none n b p.1 w.1)
within-none n (Difference a b) h w = let p = or-false (has_variable a) (has_variable b) h in (within-none n a p.0 w.0, within-none n b p.1 w.1)
within-none n (Quotient a k) h w = (w.0, w.1, within-none n a h w.2)
within-none n (Remainder a k) h w = (w.0, w.1, within-none n a h w.2)

not-long : (a b : ℕ) → ltb a b ≡ false → b ≤ a
not-long a b h = grind (arith, nat_tests)

pub countable-one : (s : Shape) (n : ℕ) (q : Query) → has_long_axis s q ≡ false → node_count (argument q) ≤ 32 → IsWithin n (argument q) → has_lawful_argument q ≡ true → HasFewLanes q → HasLanes q → IsCountable s q
countable-one s n (SumOf v e) h small w plain few some = record { small = small; within = within-none n e (argument-plain (SumOf v e) plain) w }
countable-one s n (Enumerate v e) h small w plain few some = record { small = small; within = within-none n e (argument-plain (Enumerate v e) plain) w }
countable-one s n (Reorder v t) h small w plain few some = not-long _ _ h
countable-one s n (Schedule l u t k) h small w plain few some = (not-long _ _ h, some, few)

none-of : {A : Type 0} (test : A → Bool) (xs : List A) (x : A) → list_any test xs ≡ false → Mem x xs → test x ≡ false
none-of test [] x h m = absurd m
none-of test (y ∷ ys) x h (inl e) = ap test (sym e) ∙ (or-false (test y) (list_any test ys) h).0
none-of test (y ∷ ys) x h (inr m) = none-of test ys x (or-false (test y) (list_any test ys) h).1 m

pub shape-same : (shape : code.Shape) (mx : Map) → (shape.rows ≡ mx.rows) × (shape.cols ≡ mx.cols) → plain_shape shape ≡ shape_in mx
shape-same shape mx sides = ap₂ (λ (r k : ℕ). made r k) sides.0 sides.1
  where
    made : ℕ → ℕ → Shape
    made r k = record { rows = r; cols = k }

-- ---- packs

-- without packs each piece keeps its buffer
pub without-packs : (p : Part) (bs : List Buffer) → p.packs ≡ [] → length bs ≡ length (pieces p) → packed p bs ≡ bs
without-packs p bs none l =
    ap₂ (λ (xs : List Piece) (packs : List (List Column)). map (λ x. buffer_of x (pieces p) bs) xs ++ map (λ pack. interleaved (map (λ c. buffer_of (CellsOf c) (pieces p) bs) pack)) packs) (all-kept (pieces p)) none
    ∙ append-nil (map (λ x. buffer_of x (pieces p) bs) (pieces p))
    ∙ buffers-of-pieces (pieces p) bs (pieces-distinct p 0 p.levels) l
  where
    none-has : (x : Piece) → is_packed p x ≡ false
    none-has (PosOf k) = refl
    none-has (CellsOf c) = ap (list_any (in_pack c)) none

    all-kept : (xs : List Piece) → filter (λ x. not (is_packed p x)) xs ≡ xs
    all-kept [] = refl
    all-kept (x ∷ xs) = rw (none-has x) (ap (λ l. x ∷ l) (all-kept xs))

pub packs-alike : (s : Shape) (p : Part) (m : List Entry) → ArePacksLawful p → PacksHaveOneLength p (map written (piece_buffers s p m))
packs-alike s p m packs = Mem-all (λ pack. HaveOneLength (map (λ c. list_of (pieces p) (map written (piece_buffers s p m)) (CellsOf c)) pack)) p.packs one
  where
    its : Column → Buffer
    its c = buffer_of (CellsOf c) (pieces p) (piece_buffers s p m)

    lists : List Column → List (List ℤ)
    lists pack = map (λ c. list_of (pieces p) (map written (piece_buffers s p m)) (CellsOf c)) pack

    lists-are : (pack : List Column) → lists pack ≡ map written (map its pack)
    lists-are pack = sym (map-map written its pack ∙ same-everywhere (λ c. written (its c)) (λ c. list_of (pieces p) (map written (piece_buffers s p m)) (CellsOf c)) pack (λ c. written-buffer_of (piece_buffers s p m) (pieces p) (CellsOf c)))

    at : (cs : List Buffer) (len y : ℕ) → AllLong len cs → y < length cs → length (nth (map written cs) y) ≡ len
    at cs len y all lt = ap length (get_or-mapped written cs y nothing) ∙ length-written (get_or cs y nothing) ∙ long-at len cs y all lt

    one : (pack : List Column) → Mem pack p.packs → HaveOneLength (lists pack)
    one pack mp y lt =
        let long = packs-long s p m packs [] pack mp in
        let count : length (lists pack) ≡ length (map its pack) = length-map pack _ ∙ sym (length-map pack its) in
        ap (λ (l : List (List ℤ)). length (nth l y)) (lists-are pack) ∙ at (map its pack) long.0 y long.1 (omega (arith, lt, count))
        ∙ sym (ap (λ (l : List (List ℤ)). length (nth l 0)) (lists-are pack) ∙ at (map its pack) long.0 0 long.1 (omega (arith, lt, count)))

-- ---- a part

module _ (part : held.Part) (mx : Map) (st : IsStorable (plain_part part)) where
  abbrev pub s : Shape
  s = shape_in mx

  abbrev pub m : List Entry
  m = entries_in mx

  abbrev pub qs : List Query
  qs = map query_of part.queries

  pub lanes-each : (q : Query) → Mem q qs → HasLanes q
  lanes-each q h = all-Mem HasLanes qs q st.lawful.lanes h

  pub countable : list_any (has_long_axis s) qs ≡ false → All (λ q. IsCountable s (query_of q)) part.queries
  countable none = Mem-all (λ q. IsCountable s (query_of q)) part.queries (λ q h. one (query_of q) (Mem-map query_of q part.queries h))
    where
      one : (q : Query) → Mem q qs → IsCountable s q
      one q h =
          countable-one s part-names q (none-of (has_long_axis s) qs q none h) (all-Mem (λ q. node_count (argument q) ≤ 32) qs q st.arguments h)
          (all-Mem (λ q. IsWithin part-names (argument q)) qs q st.lawful.arguments_valid h) (all-Mem (λ q. has_lawful_argument q ≡ true) qs q st.lawful.arguments h)
          (all-Mem HasFewLanes qs q st.lanes h) (lanes-each q h)
        where
          part-names : ℕ
          part-names = (plain_part part).names

  -- what a long axis alone has
  pub too-long : list_any (has_long_axis s) qs ≡ true → limit < unpacked_size s (plain_part part) m
  too-long h = omega (arith, long-above m s qs lanes-each h, cells-are m s qs)

  module _ (t : Variables) (vs : AreVariables m s qs (length part.names) t) (few : length mx.entries ≤ limit) (each : All (λ q. IsCountable s (query_of q)) part.queries) where
    few-in : length m ≤ limit
    few-in = omega (arith, few, length-map mx.entries plain_entry)

    pub extents-long : length t.extents.items ≡ length part.queries
    extents-long = ap length vs.extents ∙ length-map qs (extent_of m s) ∙ length-map part.queries query_of

    pub extents-small : All (λ n. n ≤ 67108864) t.extents.items
    extents-small =
        subst (λ (ns : List ℕ). All (λ n. n ≤ 67108864) ns) (sym vs.extents)
        (Mem-all (λ (n : ℕ). n ≤ 67108864) (map (extent_of m s) qs) (λ n k.
        let q = Mem-of_map (extent_of m s) n qs k in
        let c = Mem-of_map query_of q.0 part.queries q.1 in
        omega (arith, q.2, extent-few m s few-in q.0 (subst (λ (z : Query). IsCountable s z) c.2 (all-Mem (λ q. IsCountable s (query_of q)) part.queries c.0 each c.1)))))

    module _ (levels : List Expr) (kinds : List Kind) (queries : List QueryCode) (shape : code.Shape) (entries : List Triple) (ls : levels ≡ part.levels) (ks : kinds ≡ kinds_of (plain_part part)) (qe : queries ≡ part.queries)
        (sides : (shape.rows ≡ mx.rows) × (shape.cols ≡ mx.cols)) (es : entries ≡ mx.entries) where
      pub is-part : IsPartOf (plain_part part) levels kinds queries t
      is-part = record { levels = ap (map tree) (sym ls); kinds = ks; queries = ap (map query_of) (sym qe); names = sym vs.names }

      pub shape-is : plain_shape shape ≡ s
      shape-is = shape-same shape mx sides

      pub entries-are : plain_entries entries ≡ m
      entries-are = ap plain_entries es

      pub buildable : IsMatrix mx → IsBuildable levels kinds queries t shape entries
      buildable im = record {
        count = omega (arith, st.few_levels, length-map part.levels tree, ap length ls);
        small =
            subst (λ (l : List Expr). All (λ e. node_count (tree e) ≤ 32) l) (sym ls)
            (λ k d h. subst (λ (e : Tree). node_count e ≤ 32) (get_or-map tree part.levels k d (tree d) h) (st.small k (tree d) (omega (arith, h, length-map part.levels tree))));
        names = omega (arith, vs.names, st.names);
        lawful = (plain_part part, is-part, st.lawful);
        countable =
            subst (λ (z : Shape). All (λ q. IsCountable z (query_of q)) queries) (sym shape-is) (subst (λ (l : List QueryCode). All (λ q. IsCountable s (query_of q)) l) (sym qe) each);
        variables =
            subst (λ (es : List Entry). AreVariables es (plain_shape shape) (map query_of queries) t.names t) (sym entries-are)
            (subst (λ (z : Shape). AreVariables m z (map query_of queries) t.names t) (sym shape-is)
            (subst (λ (q : List QueryCode). AreVariables m s (map query_of q) t.names t) (sym qe)
            (subst (λ (n : ℕ). AreVariables m s qs n t) (sym vs.names) vs)));
        rows = subst IsSide (sym sides.0) im.rows;
        cols = subst IsSide (sym sides.1) im.cols;
        matrix =
            subst (λ (z : Shape). IsMatrixOf z (plain_entries entries)) (sym shape-is)
            (subst (λ (l : List Entry). IsMatrixOf s l) (sym entries-are) (program-matrix mx im));
        few = omega (arith, few, ap length es);
      }

      -- the cells of the queries, and the size of the pieces
      pub cells-same : (extents : List ℕ) → extents ≡ t.extents.items → queries_cells (plain_shape shape) (map query_of queries) extents ≡ queries_cells s qs (map (extent_of m s) qs)
      cells-same extents e =
          ap₂ (λ (z : Shape) (ns : List ℕ). queries_cells z (map query_of queries) ns) shape-is (e ∙ vs.extents) ∙ ap (λ (l : List QueryCode). queries_cells s (map query_of l) (map (extent_of m s) qs)) qe

      pub pieces-same : size_on shape entries (plain_part part) ≡ piece_size s (plain_part part) m
      pieces-same = ap₂ (λ (z : Shape) (l : List Entry). piece_size z (plain_part part) l) shape-is entries-are

      pub whole-is : queries_cells s qs (map (extent_of m s) qs) + piece_size s (plain_part part) m ≡ unpacked_size s (plain_part part) m
      whole-is = omega (arith, cells-are m s qs)

      -- ---- the rows

      module _ (few-cells : queries_cells s qs (map (extent_of m s) qs) ≤ limit) where
        pub tables-long : length (tables_in t) ≡ length part.queries
        tables-long = ap length vs.tables ∙ length-map qs (λ q. written (table_buffer m s q)) ∙ length-map part.queries query_of

        pub tables-short : All (λ cells. length cells ≤ limit) (tables_in t)
        tables-short =
            subst (λ (ts : List (List ℤ)). All (λ cells. length cells ≤ limit) ts) (sym vs.tables)
            (Mem-all (λ (cells : List ℤ). length cells ≤ limit) (map (λ q. written (table_buffer m s q)) qs) (λ cells k.
            let q = Mem-of_map (λ q. written (table_buffer m s q)) cells qs k in
            omega (arith, ap length q.2, length-written (table_buffer m s q.0), table-within m s qs q.0 q.1, few-cells)))

      module _ (made : List Level) (items : List Item) (rows : AreRowsOf levels kinds queries t shape entries made items) where
        pub buffers-of : level_buffers (plain_levels made) 1 (rows_at (6 - length made) items) ≡ piece_buffers s (plain_part part) m
        buffers-of = rows.buffers (plain_part part) is-part ∙ ap₂ (λ (z : Shape) (l : List Entry). piece_buffers z (plain_part part) l) shape-is entries-are

        pub size-of : size_from (plain_levels made) 1 (rows_at (6 - length made) items) ≡ piece_size s (plain_part part) m
        size-of = rows.size (plain_part part) is-part ∙ pieces-same

        pub stored-of : AreStored (plain_part part) (level_buffers (plain_levels made) 1 (rows_at (6 - length made) items))
        stored-of =
            subst (AreStored (plain_part part)) (sym buffers-of)
            (record {
              count = as-many-buffers s (extents_of m s (plain_part part)) (plain_part part) 0 (plain_part part).levels 1 (rows_of m s (plain_part part));
              packs = packs-alike s (plain_part part) m st.packs;
            })

        built-of : (extent_lists qs t.extents.items ++ table_lists qs (tables_in t)) ++ map written (packed (plain_part part) (level_buffers (plain_levels made) 1 (rows_at (6 - length made) items)))
            ≡ map written (part_buffers s (plain_part part) m)
        built-of =
            ap₂ (λ (x y : List (List ℤ)). (x ++ y) ++ map written (packed (plain_part part) (level_buffers (plain_levels made) 1 (rows_at (6 - length made) items))))
            (ap (extent_lists qs) vs.extents ∙ extents-are m s qs) (ap (table_lists qs) vs.tables ∙ tables-are m s qs)
            ∙ ap (λ (bs : List Buffer). (map written extents ++ map written tables) ++ map written (packed (plain_part part) bs)) buffers-of
            ∙ append_assoc (map written extents) (map written tables) (map written (packed (plain_part part) (piece_buffers s (plain_part part) m)))
            ∙ ap (λ (l : List (List ℤ)). map written extents ++ l) (sym (map-append written tables (packed (plain_part part) (piece_buffers s (plain_part part) m))))
            ∙ sym (map-append written extents (tables ++ packed (plain_part part) (piece_buffers s (plain_part part) m)))
          where
            extents : List Buffer
            extents = map (extent_buffer m s) (filter has_extent qs)

            tables : List Buffer
            tables = map (table_buffer m s) (filter has_table qs)

        -- behind the buffers so far
        pub added-of : (lists : List (List ℤ)) → lists ++ extent_lists qs t.extents.items ++ table_lists qs (tables_in t) ++ map written (packed (plain_part part) (level_buffers (plain_levels made) 1 (rows_at (6 - length made) items)))
            ≡ lists ++ map written (part_buffers s (plain_part part) m)
        added-of lists =
            ap (λ (l : List (List ℤ)). l ++ stored) (append_assoc lists (extent_lists qs t.extents.items) (table_lists qs (tables_in t)))
            ∙ append_assoc lists (extent_lists qs t.extents.items ++ table_lists qs (tables_in t)) stored
            ∙ ap (λ (l : List (List ℤ)). lists ++ l) built-of
          where
            stored : List (List ℤ)
            stored = map written (packed (plain_part part) (level_buffers (plain_levels made) 1 (rows_at (6 - length made) items)))
