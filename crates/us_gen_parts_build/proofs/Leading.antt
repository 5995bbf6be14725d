-- The phases of a part lead to its buffers.
use Rattle.std.proofs.Common.{◌≡◌, ℕ, ◌+◌, ◌*◌, ◌^◌, ◌<◌, ◌≤◌, List, [], ◌∷◌, ◌++◌, map, length, take, Bool, ℤ, sym, ap, ap₂, ◌∙◌, subst, arith, filter, append_assoc}
use Rattle.std.specs.List.{All}
use Rattle.std.proofs.lemmas.List.{length-map, map-append, length-take-le}
use Rattle.std.proofs.lemmas.List.Sums.{count_by-le-length, length-filter}
use Rattle.std.proofs.lemmas.List.Sorted.{length_permutation}
use Rattle.us_expr.specs.Tree.{Tree, node_count}
use Rattle.us_format.specs.Matrix.{Shape, Entry, IsMatrixOf}
use Rattle.us_format.specs.Declaration.{Part, has_extent, has_table}
use Rattle.us_format.specs.Queries.{extent_of, extents_of}
use Rattle.us_format.specs.Coordinates.{level_range, span}
use Rattle.us_format.specs.Positions.{row_of}
use Rattle.us_format.specs.Packs.{Buffer, written, packed}
use Rattle.us_format.specs.Buffers.{extent_buffer, table_buffer, part_buffers, piece_buffers}
use Rattle.us_format.specs.Reading.{extent_count, limit}
use Rattle.us_format.specs.Rules.{HasLanes}
use Rattle.us_format.proofs.Order.{Mem}
use Rattle.us_format.proofs.Members.{all-Mem, Mem-all}
use Rattle.us_code.specs.declared.pieces.Columns.{Columns}
use Rattle.us_code.specs.Runs.{World, phases}
use Rattle.us_gen.specs.Goes.{Keeps, Leads}
use Rattle.us_gen.proofs.Going.{keeps_both, leads_weaker, leads_both}
use Rattle.us_gen_places.specs.Holds.{IsOrderly}
use Rattle.us_gen_coordinates.specs.Phase.{columns_for, coordinates_phase}
use Rattle.us_gen_coordinates.specs.Held.{HoldLevels, IsReadable}
use Rattle.us_gen_coordinates.proofs.Holding.{coordinates_held}
use Rattle.us_gen_extents.specs.Extents.{extents_phase, AreDims, HoldExtents}
use Rattle.us_gen_extents.proofs.Extents.{extents_read}
use Rattle.us_gen_building.specs.Entries.{rows_in}
use Rattle.us_gen_building.specs.Runs.{cells_of}
use Rattle.us_gen_building.proofs.Lines.{leads_looser}
use Rattle.us_gen_pack_building.specs.declared.part.PackedLoops.{PackedLoops}
use Rattle.us_gen_pack_building.specs.Phases.{level_count, pack_count, cell_counting_phase, packing_phase, packing_phases, packed_buffers}
use Rattle.us_gen_pack_building.specs.Runs.{AreCellsCounted, AreAllBuilt, cell_counting_cost, packing_cost}
use Rattle.us_gen_pack_building.proofs.Counting.{packing_counts}
use Rattle.us_gen_pack_building.proofs.Building.{packing_builds}
use Rattle.us_gen_parts_build.specs.Parts.{lows_of, level_columns, AreLoops}
use Rattle.us_gen_parts_build.specs.Phases.{part_phases, part_names}
use Rattle.us_gen_parts_build.specs.Meaning.{NamesQueries, share, query_buffers, HoldsQueries, MayStand}
use Rattle.us_gen_parts_build.proofs.Costs.{all_costs}
use Rattle.us_gen_parts_build.proofs.Given.{extents-held, Mem-filter, extent-few, entries-kept, variables-kept, buffers-kept}
use Rattle.us_gen_parts_build.proofs.Readable.{IsReadablePart}
use Rattle.us_gen_parts_build.proofs.Ready.{lows-same, cells-within, ArePacked, IsReady, level-number, pack-number, packable}

-- what an accepted part has, so that columns of its coordinates can be made
pub record IsUsablePart (p : Part) : Type 0 where
  pub few : length p.levels ≤ 16
  pub short : All (λ e. node_count e ≤ 32) p.levels
  pub reads : (s : Shape) (m : List Entry) → IsMatrixOf s m → s.rows < 2 ^ 31 → s.cols < 2 ^ 31 → length m ≤ limit → IsReadablePart s p m

-- ---- costs at equal numbers

costs-at : (l k q e p n r c s : ℕ) → k ≡ l → r ≡ n → e ≤ q → p ≤ l + 1 → c ≤ s
    → (2 * e + (l + l * (2 + 21 * n))) + (cell_counting_cost k p r + packing_cost k p r c) ≤ 64 * ((1 + l + q) * (n + 1 + s))
costs-at l k q e p n r c s kl rn few some cells =
    subst (λ (a : ℕ). (2 * e + (l + l * (2 + 21 * n))) + (cell_counting_cost a p r + packing_cost a p r c) ≤ 64 * ((1 + l + q) * (n + 1 + s))) (sym kl)
    (subst (λ (b : ℕ). (2 * e + (l + l * (2 + 21 * n))) + (cell_counting_cost l p b + packing_cost l p b c) ≤ 64 * ((1 + l + q) * (n + 1 + s))) (sym rn) (all_costs l q e p n c s few some cells))

-- ---- what stays

dims-kept : (low : ℕ) (u v : World) → Keeps low u v → (xs : List ℕ) (d : ℕ) → d + length xs ≤ low → AreDims u.env d xs → AreDims v.env d xs
dims-kept low u v k [] d le h = tt
dims-kept low u v k (x ∷ xs) d le h = (k.dims d (omega (arith, le)) ∙ h.0, dims-kept low u v k xs (d + 1) (omega (arith, le)) h.1)

levels-higher : (bufs : ℕ → List ℤ) (low high : ℕ) (s : Shape) (p : Part) (m es : List Entry) (names : List ℕ) (exprs : List Tree) → low ≤ high
    → HoldLevels bufs low s p m es names exprs → HoldLevels bufs high s p m es names exprs
levels-higher bufs low high s p m es [] [] le h = tt
levels-higher bufs low high s p m es [] (e ∷ exprs) le h = absurd h
levels-higher bufs low high s p m es (c ∷ names) [] le h = absurd h
levels-higher bufs low high s p m es (c ∷ names) (e ∷ exprs) le h = (omega (arith, h.0, le), h.1, levels-higher bufs low high s p m es names exprs le h.2)

-- ---- all phases

module _ (sorts : Bool) (s : Shape) (p : Part) (cs : Columns) (bs : List ℕ) (n : ℕ) (x : PackedLoops) (orderly : IsOrderly p) (usable : IsUsablePart p) (are : ArePacked p)
    (names : NamesQueries p cs bs n) (loops : AreLoops sorts s p cs n (n + 16) x) where
  abbrev extents : List ℕ
  extents = take (extent_count p) bs

  few-extents : extent_count p ≤ length p.queries
  few-extents = count_by-le-length has_extent p.queries

  extents-number : length (take (extent_count p) bs) ≡ extent_count p
  extents-number = length-take-le (extent_count p) bs (omega (arith, names.buffers))

  module _ (w : World) (m es : List Entry) (given : HoldsQueries w s p cs bs m es) (stand : MayStand sorts s p m es) where
    few-entries : length m ≤ limit
    few-entries = omega (arith, given.few, length_permutation m es given.entries.shuffled)

    reads : IsReadablePart s p m
    reads = usable.reads s m given.matrix given.rows given.cols few-entries

    narrow : (e : Tree) → Mem e p.levels → span (level_range s (extents_of m s p) p e) < 2 ^ 38
    narrow e me = all-Mem (λ (d : Tree). span (level_range s (extents_of m s p) p d) < 2 ^ 38) p.levels e reads.narrow me

    abbrev values : List ℕ
    values = map (extent_of m s) (filter has_extent p.queries)

    values-number : length values ≡ extent_count p
    values-number = length-map (filter has_extent p.queries) (extent_of m s) ∙ length-filter has_extent p.queries

    hold-extents : HoldExtents w.bufs extents values
    hold-extents =
        subst (λ (k : ℕ). HoldExtents w.bufs (take k bs) values) (length-filter has_extent p.queries)
        (extents-held w.bufs m s (filter has_extent p.queries) bs (map written (map (table_buffer m s) (filter has_table p.queries)))
        (given.buffers ∙ map-append written (map (extent_buffer m s) (filter has_extent p.queries)) (map (table_buffer m s) (filter has_table p.queries)))
        (λ q i. let j = (Mem-filter has_extent p.queries q i).0 in extent-few s p m few-entries given.small q j (all-Mem HasLanes p.queries q orderly.lawful.lanes j)))

    readable : (u : World) → Keeps n w u → IsReadable u cs s p m es (n + 16)
    readable u k = record {
      lawful = orderly.lawful;
      matrix = given.matrix;
      rows = given.rows;
      cols = given.cols;
      few = given.few;
      entries = entries-kept n p cs bs m es w u names k given.entries;
      variables = variables-kept n s p cs bs m es w u names k given.variables;
      names = names.variables;
      named = reads.named;
      indices = reads.indices;
      short = reads.short;
      sizes = Mem-all (λ (e : Tree). span (level_range s (extents_of m s p) p e) ≤ 2 ^ 62) p.levels (λ e me. omega (arith, narrow e me));
      below = λ c lt. omega (arith, names.columns c lt);
    }

    abbrev Ready : World → Type 0
    Ready = IsReady s p cs n (n + 16) (n + 656) m es

    -- the phase of coordinates
    coordinates-lead : (u : World) → AreDims u.env n values → Keeps n w u
        → Leads (n + 16) (length p.levels + length p.levels * (2 + 21 * length es)) u (phases (coordinates_phase cs p.levels (lows_of s p) (n + 16) ∷ []) u) Ready
    coordinates-lead u d k =
        leads_weaker (n + 16) (length p.levels + length p.levels * (2 + 21 * length es)) u (phases (coordinates_phase cs p.levels (lows_of s p) (n + 16) ∷ []) u)
        (λ (v : World). HoldLevels v.bufs (n + 16 + 40 * length p.levels) s p m es (level_columns s p cs (n + 16)) p.levels) Ready
        (λ v h kv. record {
          dims = dims-kept (n + 16) u v kv values n (omega (arith, values-number, few-extents, orderly.few)) d;
          levels = levels-higher v.bufs (n + 16 + 40 * length p.levels) (n + 656) s p m es (level_columns s p cs (n + 16)) p.levels (omega (arith, usable.few)) h;
          entries = entries-kept n p cs bs m es w v names (keeps_both n (n + 16) w u v (omega arith) k kv) given.entries;
        })
        (subst (λ (zs : List ℤ). Leads (n + 16) (length p.levels + length p.levels * (2 + 21 * length es)) u (phases (coordinates_phase cs p.levels zs (n + 16) ∷ []) u)
        (λ (v : World). HoldLevels v.bufs (n + 16 + 40 * length p.levels) s p m es (columns_for cs p.levels zs (n + 16)) p.levels)) (sym (lows-same s p m orderly))
        (coordinates_held u cs s p m es (n + 16) (readable u k)))

    -- the phases that build
    packs-lead : (v : World) → Ready v
        → Leads (n + 656) (cell_counting_cost (level_count x) (pack_count x) (length (rows_in m s p es)) + packing_cost (level_count x) (pack_count x) (length (rows_in m s p es)) (cells_of s p m)) v
        (phases (packing_phases x (n + 656)) v) (AreAllBuilt x (n + 656) s p m)
    packs-lead v ready =
        leads_both (n + 656) (n + 656 + 1) (cell_counting_cost (level_count x) (pack_count x) (length (rows_in m s p es)))
        (packing_cost (level_count x) (pack_count x) (length (rows_in m s p es)) (cells_of s p m)) (cell_counting_phase x (n + 656) ∷ []) (packing_phase x (n + 656) ∷ []) v
        (AreCellsCounted x (n + 656) s p m (rows_in m s p es)) (AreAllBuilt x (n + 656) s p m) (omega arith)
        (packing_counts x (n + 656) s p m (rows_in m s p es) v
        (packable sorts s p cs bs n (n + 16) (n + 656) x orderly are names loops (omega arith) m es w v given stand ready narrow))
        (λ t counted kt. packing_builds x (n + 656) s p m (rows_in m s p es) t counted)

    front-leads : Leads n (2 * length extents + (length p.levels + length p.levels * (2 + 21 * length es))) w
        (phases (extents_phase extents n ∷ coordinates_phase cs p.levels (lows_of s p) (n + 16) ∷ []) w) Ready
    front-leads =
        leads_both n (n + 16) (2 * length extents) (length p.levels + length p.levels * (2 + 21 * length es)) (extents_phase extents n ∷ [])
        (coordinates_phase cs p.levels (lows_of s p) (n + 16) ∷ []) w (λ (u : World). AreDims u.env n values) Ready (omega arith)
        (extents_read extents values n w hold-extents) coordinates-lead

    built : (u : World) → AreAllBuilt x (n + 656) s p m u → Keeps n w u → map u.bufs (part_names bs n x) ≡ map written (part_buffers s p m)
    built u h k =
        map-append u.bufs bs (packed_buffers x (n + 656))
        ∙ ap₂ (λ (xs ys : List (List ℤ)). xs ++ ys) (buffers-kept n w u k bs names.low ∙ given.buffers) h
        ∙ sym (map-append written (query_buffers s p m) (packed p (piece_buffers s p m)))
        ∙ ap (λ (xs : List Buffer). map written xs)
        (append_assoc (map (extent_buffer m s) (filter has_extent p.queries)) (map (table_buffer m s) (filter has_table p.queries)) (packed p (piece_buffers s p m)))

    pub part-leads : Leads n (64 * ((1 + length p.levels + length p.queries) * (length es + 1 + share s p m))) w
        (phases (part_phases cs p.levels (lows_of s p) extents n x) w) (λ u. map u.bufs (part_names bs n x) ≡ map written (part_buffers s p m))
    part-leads =
        leads_looser n n
        ((2 * length extents + (length p.levels + length p.levels * (2 + 21 * length es)))
        + (cell_counting_cost (level_count x) (pack_count x) (length (rows_in m s p es)) + packing_cost (level_count x) (pack_count x) (length (rows_in m s p es)) (cells_of s p m)))
        (64 * ((1 + length p.levels + length p.queries) * (length es + 1 + share s p m))) w (phases (part_phases cs p.levels (lows_of s p) extents n x) w)
        (λ (u : World). map u.bufs (part_names bs n x) ≡ map written (part_buffers s p m)) (omega arith)
        (costs-at (length p.levels) (level_count x) (length p.queries) (length extents) (pack_count x) (length es) (length (rows_in m s p es)) (cells_of s p m) (share s p m)
        (level-number sorts s p cs bs n (n + 16) (n + 656) x orderly are names loops (omega arith)) (length-map es (row_of m s p)) (omega (arith, extents-number, few-extents))
        (omega (arith, pack-number sorts s p cs bs n (n + 16) (n + 656) x orderly are names loops (omega arith), are.few)) (omega (arith, cells-within s p m orderly)))
        (leads_weaker n _ w (phases (part_phases cs p.levels (lows_of s p) extents n x) w) (AreAllBuilt x (n + 656) s p m) (λ (u : World). map u.bufs (part_names bs n x) ≡ map written (part_buffers s p m))
        built
        (leads_both n (n + 656) (2 * length extents + (length p.levels + length p.levels * (2 + 21 * length es)))
        (cell_counting_cost (level_count x) (pack_count x) (length (rows_in m s p es)) + packing_cost (level_count x) (pack_count x) (length (rows_in m s p es)) (cells_of s p m))
        (extents_phase extents n ∷ coordinates_phase cs p.levels (lows_of s p) (n + 16) ∷ []) (packing_phases x (n + 656)) w Ready (AreAllBuilt x (n + 656) s p m) (omega arith) front-leads
        (λ v ready kv. packs-lead v ready)))
