-- The places have a coordinate for each level, with the low end of its range, and a table for each query.
use Rattle.std.proofs.Common.{◌≡◌, ℕ, zero, suc, ◌+◌, List, [], ◌∷◌, ◌++◌, map, length, true, ◌&&◌, ◌||◌, ℤ, Some, sym, refl, ap, ap₂, ◌∙◌, arith}
use Rattle.std.specs.Prelude.{slice_get}
use Rattle.std.proofs.lemmas.List.{length-map, map-append}
use Rattle.us_expr.specs.Tree.{Tree}
use Rattle.us_expr.specs.Value.{IsWithin}
use Rattle.us_format.specs.declared.Kind.{Kind}
use Rattle.us_format.specs.declared.Kind.TheVariants as kinds
use Rattle.us_format.specs.Lists.{among}
use Rattle.us_format.specs.Matrix.{Shape}
use Rattle.us_format.specs.Declaration.{Part}
use Rattle.us_format.specs.Kinds.{kind, levels_from, before_loose, tells}
use Rattle.us_format.specs.Reading.{extent_count}
use Rattle.us_format.proofs.Members.{all-Mem, item-Mem}
use Rattle.us_format_loops.specs.Laws.{StaysLoose}
use Rattle.us_format_loops.specs.Nodes.{is_slot, are_slots}
use Rattle.us_format_loops.proofs.Split.{loose-rest}
use Rattle.us_gen.specs.Levels.{end_of}
use Rattle.us_gen_recover.specs.declared.places.Coordinate.{Coordinate}
use Rattle.us_gen_recover.specs.declared.places.Table.{Table}
use Rattle.us_gen_recover.specs.Recovery.{coordinate}
use Rattle.us_gen_walk.specs.declared.places.Loop.{Loop}
use Rattle.us_gen_walk.specs.declared.places.Loop.TheVariants as over
use Rattle.us_gen_walk.specs.declared.places.Slot.{Slot}
use Rattle.us_gen_walk.specs.Walk.{levels_of, loop_coordinates, slot_coordinates, leaf_at, coordinates}
use Rattle.us_gen_places.specs.declared.start.PartStart.{PartStart}
use Rattle.us_gen_places.specs.Places.{range_without, level_place, with_loop, with_slot, loops_from, slots_from}
use Rattle.us_gen_places.specs.Holds.{IsWhole, PlacesCover}
use Rattle.us_gen_places.proofs.LevelsHeld.{slot-loose}
use Rattle.us_gen_places.proofs.SizesHold.{low-holds}
use Rattle.us_gen_places.proofs.TablesHeld.{tables-number}

-- ---- low ends

abbrev lows : List Coordinate → List ℤ
lows cs = map (λ (c : Coordinate). c.low) cs

abbrev low_of : Loop → ℤ
low_of (over.Full size low) = low
low_of (over.Nodes k more nodes crd low) = low

abbrev lows_of : List Loop → List ℤ
lows_of ls = map low_of ls

abbrev lows_in : List Slot → List ℤ
lows_in xs = map (λ (x : Slot). x.low) xs

loop_lows : (ls : List Loop) (n : ℕ) → lows (loop_coordinates ls n) ≡ lows_of ls
loop_lows [] n = refl
loop_lows (over.Full size low ∷ ls) n = ap (λ (zs : List ℤ). low ∷ zs) (loop_lows ls (end_of (levels_of (over.Full size low)) n))
loop_lows (over.Nodes k more nodes crd low ∷ ls) n = ap (λ (zs : List ℤ). low ∷ zs) (loop_lows ls (end_of (levels_of (over.Nodes k more nodes crd low)) n))

slot_lows : (xs : List Slot) (n : ℕ) → lows (slot_coordinates xs n) ≡ lows_in xs
slot_lows [] n = refl
slot_lows (x ∷ xs) n = ap (λ (zs : List ℤ). x.low ∷ zs) (slot_lows xs (n + 2))

module _ (a : PartStart) (s : Shape) (p : Part) where
  abbrev wanted : List Tree → List ℤ
  wanted es = map (λ e. (range_without s p e).lo) es

  -- slot levels have no loops
  slots_alone : (k : ℕ) (es : List Tree) → are_slots (levels_from s [] p k es) ≡ true → (loops_from a s p k es ≡ []) × (lows_in (slots_from a s p k es) ≡ wanted es)
  slots_alone k [] h = (refl, refl)
  slots_alone k (e ∷ es) h = go (kind p k) h (slots_alone (suc k) es)
    where
      go : (kd : Kind) → (is_slot kd && are_slots (levels_from s [] p (suc k) es)) ≡ true
          → (are_slots (levels_from s [] p (suc k) es) ≡ true → (loops_from a s p (suc k) es ≡ []) × (lows_in (slots_from a s p (suc k) es) ≡ wanted es))
          → (with_loop (level_place a s p k e kd) (loops_from a s p (suc k) es) ≡ []) × (lows_in (with_slot (level_place a s p k e kd) (slots_from a s p (suc k) es)) ≡ (range_without s p e).lo ∷ wanted es)
      go kinds.Full h ih = absurd cc
      go kinds.Compressed h ih = absurd cc
      go kinds.Listed h ih = absurd cc
      go kinds.Slot h ih = let r = ih h in (r.0, ap (λ (zs : List ℤ). (range_without s p e).lo ∷ zs) r.1)

  -- the loops and behind them the slot levels are all levels
  all_lows : StaysLoose p → (k : ℕ) (es : List Tree) → k + length es ≡ length p.levels → lows_of (loops_from a s p k es) ++ lows_in (slots_from a s p k es) ≡ wanted es
  all_lows loose k [] n = refl
  all_lows loose k (e ∷ es) n = go (kind p k) refl (all_lows loose (suc k) es (omega (arith, n)))
    where
      go : (kd : Kind) → kind p k ≡ kd → lows_of (loops_from a s p (suc k) es) ++ lows_in (slots_from a s p (suc k) es) ≡ wanted es
          → lows_of (with_loop (level_place a s p k e kd) (loops_from a s p (suc k) es)) ++ lows_in (with_slot (level_place a s p k e kd) (slots_from a s p (suc k) es)) ≡ (range_without s p e).lo ∷ wanted es
      go kinds.Full q ih = ap (λ (zs : List ℤ). (range_without s p e).lo ∷ zs) ih
      go kinds.Compressed q ih = ap (λ (zs : List ℤ). (range_without s p e).lo ∷ zs) ih
      go kinds.Listed q ih = ap (λ (zs : List ℤ). (range_without s p e).lo ∷ zs) ih
      go kinds.Slot q ih =
          let r = slots_alone (suc k) es (loose-rest s [] p loose k es (omega (arith, n)) (slot-loose (among k p.trim) (among k p.merge) (before_loose p k || tells p k) q)) in
          ap (λ (ls : List Loop). lows_of ls ++ ((range_without s p e).lo ∷ lows_in (slots_from a s p (suc k) es))) r.0 ∙ ap (λ (zs : List ℤ). (range_without s p e).lo ∷ zs) r.1

-- an item of a list
there : {A B : Type 0} (f : A → B) (g : Coordinate → B) (cs : List Coordinate) (es : List A) (k : ℕ) (e : A) → map g cs ≡ map f es → slice_get es k ≡ Some e → g (coordinate cs k) ≡ f e
there f g cs [] k e h at = absurd cc
there f g [] (x ∷ es) k e h at = absurd cc
there f g (c ∷ cs) (x ∷ es) zero e h at = let q : x ≡ e = cc in let r : g c ≡ f x = cc in r ∙ ap f q
there f g (c ∷ cs) (x ∷ es) (suc k) e h at = there f g cs es k e (let q : map g cs ≡ map f es = cc in q) at

pub places-cover : PlacesCover
places-cover a s p m w n orderly at =
    let is : lows (coordinates w n) ≡ wanted a s p p.levels =
    map-append (λ (c : Coordinate). c.low) (loop_coordinates w.loops.items n) (slot_coordinates w.slots.items (leaf_at w n + 2))
    ∙ ap₂ (λ (xs ys : List ℤ). xs ++ ys) (loop_lows w.loops.items n ∙ ap lows_of at.loops) (slot_lows w.slots.items (leaf_at w n + 2) ∙ ap lows_in at.slots)
    ∙ all_lows a s p orderly.loose 0 p.levels (omega arith) in
    record {
      levels = sym (length-map (coordinates w n) (λ (c : Coordinate). c.low)) ∙ ap (λ (zs : List ℤ). length zs) is ∙ length-map p.levels (λ e. (range_without s p e).lo);
      tables = ap (λ (ts : List Table). length ts) at.tables ∙ tables-number a (extent_count p) 0 p.queries;
      lows = λ k e h.
          there (λ d. (range_without s p d).lo) (λ (c : Coordinate). c.low) (coordinates w n) p.levels k e is h
          ∙ low-holds s p m orderly.few e (all-Mem (IsWhole p.queries) p.levels e orderly.whole (item-Mem p.levels k e h)) (all-Mem (IsWithin p.names) p.levels e orderly.lawful.levels_valid (item-Mem p.levels k e h));
    }
