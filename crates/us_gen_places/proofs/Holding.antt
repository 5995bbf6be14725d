-- On the buffers of a part its places hold its levels, its values and its tables.
use Rattle.std.proofs.Common.{◌≡◌, ℕ, suc, ◌+◌, ◌<◌, List, [], ◌∷◌, map, length, Bool, true, false, cond, ℤ, sym, refl, ap, ◌∙◌, subst, inl, arith, zero-add}
use Rattle.std.proofs.lemmas.List.{append-nil}
use Rattle.std.proofs.lemmas.List.Sums.{length-filter}
use Rattle.us_expr.specs.Tree.{Tree}
use Rattle.us_expr.specs.Value.{IsWithin}
use Rattle.us_format.specs.Lists.{nth}
use Rattle.us_format.specs.Matrix.{Shape, Entry}
use Rattle.us_format.specs.Declaration.{LevelColumn, ValueColumn, Part, has_table}
use Rattle.us_format.specs.Kinds.{kind}
use Rattle.us_format.specs.Queries.{extents_of}
use Rattle.us_format.specs.Packs.{Piece, CellsOf, pieces, pieces_from, level_pieces, is_packed, written, buffer_of}
use Rattle.us_format.specs.Buffers.{piece_buffers, table_buffer}
use Rattle.us_format.specs.Climb.{values}
use Rattle.us_format.specs.Reading.{extent_count, own_place, buffer_count, tables_in}
use Rattle.us_format.proofs.Order.{Mem}
use Rattle.us_format.proofs.Members.{all-Mem, Mem-right}
use Rattle.us_format.proofs.PartLaw.{map-map}
use Rattle.us_format.proofs.Places.{pieces-are, tables-read, stand-tables, laid, buffers-number}
use Rattle.us_format_loops.specs.Laws.{levels_on, values_on}
use Rattle.us_format_loops.specs.Nodes.{has_nodes}
use Rattle.us_code.specs.declared.program.Dim.TheVariants as dim
use Rattle.us_code.specs.Run.{Env, size_of}
use Rattle.us_gen_recover.specs.declared.places.Table.{Table}
use Rattle.us_gen_walk.specs.declared.places.Column.{Column as Place}
use Rattle.us_gen_walk.specs.declared.places.Loop.{Loop}
use Rattle.us_gen_walk.specs.declared.places.Slot.{Slot}
use Rattle.us_gen_walk.specs.Runs.{HasColumn, HasLevels, HasTables}
use Rattle.us_gen_places.specs.declared.start.PartStart.{PartStart}
use Rattle.us_gen_places.specs.Places.{place_of, nodes_of, nodes_name, loops_from, slots_from, tables_from}
use Rattle.us_gen_places.specs.Holds.{IsOrderly, IsWhole, held_by, HasBuffers, PlacesHold}
use Rattle.us_gen_places.proofs.ColumnsHeld.{cells_of, own-is, read-is, column-is}
use Rattle.us_gen_places.proofs.LevelsHeld.{HoldsPieces, values-behind, levels-held}
use Rattle.us_gen_places.proofs.SizesHold.{size-holds}
use Rattle.us_gen_places.proofs.TablesHeld.{tables-held}

-- the values are a piece
value_there : (p : Part) (k : ℕ) (es : List Tree) → Mem (CellsOf ValueColumn) (pieces_from p k es)
value_there p k [] = inl refl
value_there p k (e ∷ es) = Mem-right (CellsOf ValueColumn) (level_pieces k (kind p k)) (pieces_from p (suc k) es) (value_there p (suc k) es)

module _ (env : Env) (a : PartStart) (s : Shape) (p : Part) (m : List Entry) (orderly : IsOrderly p) (has : HasBuffers env a s p m) where
  abbrev C : Piece → List ℤ
  C = cells_of s p m

  nodes_are : (k : ℕ) → k < length p.levels → has_nodes (kind p k) ≡ true → Mem (CellsOf (LevelColumn k)) (pieces p) → size_of env (nodes_of a p k) ≡ length (C (CellsOf (LevelColumn k)))
  nodes_are k l h mem = go (is_packed p (CellsOf (LevelColumn k))) refl
    where
      go : (b : Bool) → is_packed p (CellsOf (LevelColumn k)) ≡ b
          → size_of env (cond b (dim.Name (nodes_name a k)) (dim.Len (a.source + own_place p (CellsOf (LevelColumn k))))) ≡ length (cells_of s p m (CellsOf (LevelColumn k)))
      go true q = has.nodes k l h q ∙ ap (λ (xs : List ℤ). length xs) (read-is env a s p m orderly.packs has (CellsOf (LevelColumn k)) mem)
      go false q = ap (λ (xs : List ℤ). length xs) (own-is env a s p m orderly.packs has (CellsOf (LevelColumn k)) mem q)

  holds : HoldsPieces env a s (extents_of m s p) p (cells_of s p m)
  holds = record {
    own = own-is env a s p m orderly.packs has;
    column = column-is env a s p m orderly.packs has;
    size = λ e i. size-holds s p m orderly.few env a has.extents e (all-Mem (IsWhole p.queries) p.levels e orderly.whole i) (all-Mem (IsWithin p.names) p.levels e orderly.lawful.levels_valid i);
    nodes = nodes_are;
    more = λ k l h mem. has.more k l h ∙ ap (λ (xs : List ℤ). length xs + 1) (read-is env a s p m orderly.packs has (CellsOf (LevelColumn k)) mem);
  }

  pieces_held : map (cells_of s p m) (pieces p) ≡ map written (piece_buffers s p m)
  pieces_held = sym (map-map written (λ x. buffer_of x (pieces p) (piece_buffers s p m)) (pieces p)) ∙ ap (map written) (pieces-are s p m orderly.packs [])

  source_is : (k : ℕ) → k < buffer_count p → env.sources (a.source + k) ≡ nth (held_by s p m) k
  source_is k l = has.sources k (rw (buffers-number s p m orderly.packs []) l)

  tables_read : tables_in (extent_count p) (held_by s p m) p.queries ≡ map (λ q. written (table_buffer m s q)) p.queries
  tables_read =
      ap (λ (xs : List (List ℤ)). tables_in (extent_count p) xs p.queries) (sym (append-nil (held_by s p m)))
      ∙ tables-read m s p.queries (extent_count p) (laid s p m orderly.packs []) (stand-tables s p m orderly.packs [])

  tables_held : HasTables env (tables_from a (extent_count p) 0 p.queries) (extents_of m s p) (map (λ q. written (table_buffer m s q)) p.queries)
  tables_held =
      subst (λ (xs : List (List ℤ)). HasTables env (tables_from a (extent_count p) 0 p.queries) (extents_of m s p) xs) tables_read
      (tables-held env a m s (held_by s p m) (buffer_count p) source_is (extent_count p) 0 p.queries (omega (arith, length-filter has_table p.queries))
      (λ i x at e. ap (λ n. env.dims (a.dim + n)) (zero-add i) ∙ has.extents i x at e))

pub places-hold : PlacesHold
places-hold env a s p m w orderly im has numbers at =
    record {
      levels =
          subst (λ (ls : List Loop). HasLevels env ls w.slots.items (levels_on s p m) (map written (piece_buffers s p m))) (sym at.loops)
          (subst (λ (xs : List Slot). HasLevels env (loops_from a s p 0 p.levels) xs (levels_on s p m) (map written (piece_buffers s p m))) (sym at.slots)
          (subst (λ (cs : List (List ℤ)). HasLevels env (loops_from a s p 0 p.levels) (slots_from a s p 0 p.levels) (levels_on s p m) cs) (pieces_held env a s p m orderly has)
          (levels-held env a s (extents_of m s p) p (cells_of s p m) (holds env a s p m orderly has) orderly.loose 0 p.levels (omega arith) (λ x i. i) (λ e i. i))));
      values =
          subst (λ (c : Place). HasColumn env c (values_on s p m)) (sym at.values)
          (subst (λ (xs : List ℤ). HasColumn env (place_of a p ValueColumn) xs)
          (sym (values-behind s (extents_of m s p) p (cells_of s p m) 0 p.levels) ∙ ap (λ (cs : List (List ℤ)). values (levels_on s p m) cs) (pieces_held env a s p m orderly has))
          (column-is env a s p m orderly.packs has ValueColumn (value_there p 0 p.levels)));
      tables = subst (λ (ts : List Table). HasTables env ts (extents_of m s p) (map (λ q. written (table_buffer m s q)) p.queries)) (sym at.tables) (tables_held env a s p m orderly has);
      numbers = numbers;
    }
