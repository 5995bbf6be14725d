-- The places of levels hold the levels.
use Rattle.std.proofs.Common.{◌≡◌, ℕ, suc, ◌+◌, ◌<◌, List, [], ◌∷◌, ◌++◌, map, length, drop, Bool, true, false, cond, not, ◌&&◌, ◌||◌, ℤ, sym, refl, ap, ◌∙◌, subst, inl, inr, arith}
use Rattle.std.specs.Prelude.{replicate}
use Rattle.us_expr.specs.Tree.{Tree}
use Rattle.us_format.specs.declared.Kind.{Kind}
use Rattle.us_format.specs.declared.Kind.TheVariants as kinds
use Rattle.us_format.specs.Lists.{among}
use Rattle.us_format.specs.Matrix.{Shape}
use Rattle.us_format.specs.Declaration.{Column, LevelColumn, ValueColumn, Part}
use Rattle.us_format.specs.Coordinates.{level_range, span}
use Rattle.us_format.specs.Kinds.{kind, levels_from, before_loose, tells}
use Rattle.us_format.specs.Packs.{Piece, PosOf, CellsOf, pieces, pieces_from, level_pieces, is_packed}
use Rattle.us_format.specs.Reading.{own_place}
use Rattle.us_format.specs.Climb.{width, values}
use Rattle.us_format.proofs.Order.{Mem}
use Rattle.us_format_loops.specs.Laws.{StaysLoose}
use Rattle.us_format_loops.specs.Nodes.{is_slot, has_nodes, are_slots}
use Rattle.us_format_loops.proofs.Split.{loose-rest}
use Rattle.us_code.specs.declared.program.Dim.TheVariants as dim
use Rattle.us_code.specs.Run.{Env, size_of}
use Rattle.us_gen_walk.specs.declared.places.Loop.{Loop}
use Rattle.us_gen_walk.specs.Runs.{HasColumn, HasNodes, HasSlots, HasLevels}
use Rattle.us_gen_places.specs.declared.start.PartStart.{PartStart}
use Rattle.us_gen_places.specs.Places.{place_of, nodes_of, more_name, counted_by, range_without, size_by, level_place, with_loop, with_slot, loops_from, slots_from}

-- a slot level is loose
pub slot-loose : (t g b : Bool) → cond t (cond g kinds.Compressed (cond b kinds.Slot kinds.Listed)) kinds.Full ≡ kinds.Slot → (t && not g) ≡ true
slot-loose true true b h = absurd cc
slot-loose true false b h = refl
slot-loose false g b h = absurd cc

-- what the sources and dims hold of each piece of a part
pub record HoldsPieces (env : Env) (a : PartStart) (s : Shape) (ns : List ℕ) (p : Part) (C : Piece → List ℤ) : Type 0 where
  pub own : (x : Piece) → Mem x (pieces p) → is_packed p x ≡ false → env.sources (a.source + own_place p x) ≡ C x
  pub column : (c : Column) → Mem (CellsOf c) (pieces p) → HasColumn env (place_of a p c) (C (CellsOf c))
  pub size : (e : Tree) → Mem e p.levels → size_of env (size_by a (counted_by p.queries e) (range_without s p e)) ≡ span (level_range s ns p e)
  pub nodes : (k : ℕ) → k < length p.levels → has_nodes (kind p k) ≡ true → Mem (CellsOf (LevelColumn k)) (pieces p) → size_of env (nodes_of a p k) ≡ length (C (CellsOf (LevelColumn k)))
  pub more : (k : ℕ) → k < length p.levels → has_nodes (kind p k) ≡ true → Mem (CellsOf (LevelColumn k)) (pieces p) → env.dims (more_name a k) ≡ length (C (CellsOf (LevelColumn k))) + 1

-- the values stand behind the buffers of the levels
pub values-behind : (s : Shape) (ns : List ℕ) (p : Part) (C : Piece → List ℤ) (k : ℕ) (es : List Tree) → values (levels_from s ns p k es) (map C (pieces_from p k es)) ≡ C (CellsOf ValueColumn)
values-behind s ns p C k [] = refl
values-behind s ns p C k (e ∷ es) = go (kind p k) (values-behind s ns p C (suc k) es)
  where
    go : (kd : Kind) → values (levels_from s ns p (suc k) es) (map C (pieces_from p (suc k) es)) ≡ C (CellsOf ValueColumn)
        → values (levels_from s ns p (suc k) es) (drop (width kd) (map C (level_pieces k kd ++ pieces_from p (suc k) es))) ≡ C (CellsOf ValueColumn)
    go kinds.Full ih = ih
    go kinds.Compressed ih = ih
    go kinds.Listed ih = ih
    go kinds.Slot ih = ih

module _ (env : Env) (a : PartStart) (s : Shape) (ns : List ℕ) (p : Part) (C : Piece → List ℤ) (holds : HoldsPieces env a s ns p C) where
  -- levels that are slot levels
  slots_held : (k : ℕ) (es : List Tree) → are_slots (levels_from s ns p k es) ≡ true → ((x : Piece) → Mem x (pieces_from p k es) → Mem x (pieces p))
      → (loops_from a s p k es ≡ []) × HasSlots env (slots_from a s p k es) (levels_from s ns p k es) (map C (pieces_from p k es))
  slots_held k [] h mem = (refl, tt)
  slots_held k (e ∷ es) h mem = go (kind p k) h mem (slots_held (suc k) es)
    where
      go : (kd : Kind) → (is_slot kd && are_slots (levels_from s ns p (suc k) es)) ≡ true → ((x : Piece) → Mem x (level_pieces k kd ++ pieces_from p (suc k) es) → Mem x (pieces p))
          → (are_slots (levels_from s ns p (suc k) es) ≡ true → ((x : Piece) → Mem x (pieces_from p (suc k) es) → Mem x (pieces p))
          → (loops_from a s p (suc k) es ≡ []) × HasSlots env (slots_from a s p (suc k) es) (levels_from s ns p (suc k) es) (map C (pieces_from p (suc k) es)))
          → (with_loop (level_place a s p k e kd) (loops_from a s p (suc k) es) ≡ [])
          × HasSlots env (with_slot (level_place a s p k e kd) (slots_from a s p (suc k) es)) (record { kind = kd; size = span (level_range s ns p e) } ∷ levels_from s ns p (suc k) es) (map C (level_pieces k kd ++ pieces_from p (suc k) es))
      go kinds.Full h mem ih = absurd cc
      go kinds.Compressed h mem ih = absurd cc
      go kinds.Listed h mem ih = absurd cc
      go kinds.Slot h mem ih =
          let r = ih h (λ x i. mem x (inr i)) in
          (r.0, (holds.column (LevelColumn k) (mem (CellsOf (LevelColumn k)) (inl refl)), r.1))

  module _ (loose : StaysLoose p) where
    slots_rest : (k : ℕ) (es : List Tree) → suc k + length es ≡ length p.levels → kind p k ≡ kinds.Slot → are_slots (levels_from s ns p (suc k) es) ≡ true
    slots_rest k es n h = loose-rest s ns p loose k es n (slot-loose (among k p.trim) (among k p.merge) (before_loose p k || tells p k) h)

    pub levels-held : (k : ℕ) (es : List Tree) → k + length es ≡ length p.levels → ((x : Piece) → Mem x (pieces_from p k es) → Mem x (pieces p)) → ((e : Tree) → Mem e es → Mem e p.levels)
        → HasLevels env (loops_from a s p k es) (slots_from a s p k es) (levels_from s ns p k es) (map C (pieces_from p k es))
    levels-held k [] n mem there = tt
    levels-held k (e ∷ es) n mem there = go (kind p k) refl mem (levels-held (suc k) es (omega (arith, n)))
      where
        behind : (d : Tree) → Mem d es → Mem d p.levels
        behind d i = there d (inr i)

        with_nodes : has_nodes (kind p k) ≡ true → Mem (PosOf k) (pieces p) → Mem (CellsOf (LevelColumn k)) (pieces p)
            → HasNodes env (a.source + own_place p (PosOf k)) (dim.Name (more_name a k)) (nodes_of a p k) (place_of a p (LevelColumn k)) (C (PosOf k)) (C (CellsOf (LevelColumn k)))
        with_nodes h i j =
            record {
              starts_are = holds.own (PosOf k) i refl;
              cells_are = holds.column (LevelColumn k) j;
              number = holds.nodes k (omega (arith, n)) h j;
              one_more = holds.more k (omega (arith, n)) h j ∙ ap (λ x. x + 1) (sym (holds.nodes k (omega (arith, n)) h j));
            }

        go : (kd : Kind) → kind p k ≡ kd → ((x : Piece) → Mem x (level_pieces k kd ++ pieces_from p (suc k) es) → Mem x (pieces p))
            → (((x : Piece) → Mem x (pieces_from p (suc k) es) → Mem x (pieces p)) → ((d : Tree) → Mem d es → Mem d p.levels)
            → HasLevels env (loops_from a s p (suc k) es) (slots_from a s p (suc k) es) (levels_from s ns p (suc k) es) (map C (pieces_from p (suc k) es)))
            → HasLevels env (with_loop (level_place a s p k e kd) (loops_from a s p (suc k) es)) (with_slot (level_place a s p k e kd) (slots_from a s p (suc k) es))
            (record { kind = kd; size = span (level_range s ns p e) } ∷ levels_from s ns p (suc k) es) (map C (level_pieces k kd ++ pieces_from p (suc k) es))
        go kinds.Full q mem ih = (holds.size e (there e (inl refl)), ih mem behind)
        go kinds.Compressed q mem ih =
            (with_nodes (ap has_nodes q) (mem (PosOf k) (inl refl)) (mem (CellsOf (LevelColumn k)) (inr (inl refl))), ih (λ x i. mem x (inr (inr i))) behind)
        go kinds.Listed q mem ih =
            (with_nodes (ap has_nodes q) (mem (PosOf k) (inl refl)) (mem (CellsOf (LevelColumn k)) (inr (inl refl))), ih (λ x i. mem x (inr (inr i))) behind)
        go kinds.Slot q mem ih =
            let r = slots_held (suc k) es (slots_rest k es (omega (arith, n)) q) (λ x i. mem x (inr i)) in
            subst
            (λ (ls : List Loop). HasLevels env ls (record { crd = place_of a p (LevelColumn k); low = (level_range s (replicate 16 0) p e).lo } ∷ slots_from a s p (suc k) es)
            (record { kind = kinds.Slot; size = span (level_range s ns p e) } ∷ levels_from s ns p (suc k) es) (C (CellsOf (LevelColumn k)) ∷ map C (pieces_from p (suc k) es)))
            (sym r.0) (holds.column (LevelColumn k) (mem (CellsOf (LevelColumn k)) (inl refl)), r.1)
