-- The phases of a part keep the limits of a program's text, and sort nothing where they need no order.
use Rattle.std.proofs.Common.{◌≡◌, ℕ, suc, ◌+◌, ◌^◌, ◌<◌, ◌≤◌, List, [], ◌∷◌, map, length, Bool, true, false, ℤ, pos, negsuc, ◌+ℤ◌, ◌-ℤ◌, Option, Some, None, refl, sym, ap, ◌∙◌, subst, arith}
use Rattle.std.specs.Prelude.{slice_index_or, replicate}
use Rattle.std.proofs.lemmas.Int.{ints}
use Rattle.us_expr.specs.declared.ranges.Range.{Range}
use Rattle.us_expr.specs.Tree.{Tree, RowIndex}
use Rattle.us_expr.specs.Range.{IsNear}
use Rattle.us_format.specs.Lists.{nat_of}
use Rattle.us_format.specs.Matrix.{Shape}
use Rattle.us_format.specs.Declaration.{Part}
use Rattle.us_format.specs.Coordinates.{level_range, span}
use Rattle.us_decl.specs.Declares.{Declared}
use Rattle.us_code.specs.declared.pieces.Columns.{Columns}
use Rattle.us_code.specs.Limits.{FitsDim}
use Rattle.us_gen_places.specs.Places.{range_without}
use Rattle.us_gen_parts.specs.Own.{IsPartOf}
use Rattle.us_gen_parts.proofs.PartThere.{level-near}
use Rattle.us_gen_coordinates.specs.Laws.{AreLevels}
use Rattle.us_gen_coordinates.specs.Phase.{coordinates_phase}
use Rattle.us_gen_extents.specs.Extents.{extents_phase}
use Rattle.us_gen_building.specs.declared.part.PartLevel.{PartLevel}
use Rattle.us_gen_building.specs.Runs.{IsBelow, AllBelow}
use Rattle.us_gen_pack_building.specs.declared.part.PackedLoops.{PackedLoops}
use Rattle.us_gen_pack_building.specs.Levels.{FitRuns}
use Rattle.us_limits.specs.Small.{KeepText}
use Rattle.us_limits.specs.Orders.{HaveNoOrder}
use Rattle.us_limits.proofs.Phases.{text-looser, append-keep}
use Rattle.us_build_limits.specs.Texts.{FitsLow, FitLows, SizesFit, KeysFit}
use Rattle.us_build_limits.proofs.Columns.{extents-keep-limits, coordinates-keep-limits}
use Rattle.us_build_limits.proofs.Phases.{keys-fit-levels, packings-keep-limits}
use Rattle.us_build_limits.proofs.Unordered.{sort-nothing}
use Rattle.us_gen_parts_build.specs.Parts.{bound_of, size_by, levels_from, lows_of, part_levels, keys_of, AreLoops}
use Rattle.us_gen_parts_build.specs.Phases.{part_phases}

-- ---- ranges without extents

-- a low end and a span that are numbers of a text
pub record HasShortRange (r : Range) : Type 0 where
  pub low : FitsLow r.lo
  pub few : span r < 2 ^ 63

-- of all levels
abbrev pub HaveShortRanges : Shape → Part → List Tree → Type 0
HaveShortRanges s p es = (k : ℕ) → k < length es → HasShortRange (range_without s p (slice_index_or es k RowIndex))

near-low : (z : ℤ) → IsNear (2 ^ 37) z → FitsLow z
near-low (pos k) h = omega (arith, ints, h.high)
near-low (negsuc k) h = omega (arith, ints, h.low)

near-few : (lo hi : ℤ) → IsNear (2 ^ 37) lo → IsNear (2 ^ 37) hi → nat_of ((hi +ℤ pos 1) -ℤ lo) < 2 ^ 63
near-few lo hi a b = go ((hi +ℤ pos 1) -ℤ lo) refl
  where
    go : (z : ℤ) → z ≡ (hi +ℤ pos 1) -ℤ lo → nat_of z < 2 ^ 63
    go (pos k) e = omega (arith, ints, e, a.low, b.high)
    go (negsuc k) e = omega arith

-- those of a part of an accepted format
pub ranges-short : (d : Declared) (number : ℕ) (p : Part) (s : Shape) → IsPartOf d number p → s.rows < 2 ^ 31 → s.cols < 2 ^ 31 → HaveShortRanges s p p.levels
ranges-short d number p s at rows cols k lt =
    let r : Range = range_without s p (slice_index_or p.levels k RowIndex) in
    let near = level-near d number p k s at lt rows cols r (ap (λ (q : Part). level_range s (replicate 16 0) q (slice_index_or q.levels k RowIndex)) at.is) in
    record { low = near-low r.lo near.0; few = near-few r.lo r.hi near.0 near.1 }

lows-fit : (s : Shape) (p : Part) (es : List Tree) → HaveShortRanges s p es → FitLows (map (λ e. (range_without s p e).lo) es)
lows-fit s p [] h = tt
lows-fit s p (e ∷ es) h = ((h 0 (omega arith)).low, lows-fit s p es (λ k lt. h (suc k) (omega (arith, lt))))

size-fits : (f : ℕ) (o : Option ℕ) (r : Range) → f < 2 ^ 32 → IsBelow f (size_by o r) → span r < 2 ^ 63 → FitsDim (size_by o r)
size-fits f None r few b h = h
size-fits f (Some d) r few b h = omega (arith, b, few)

sizes-fit : (s : Shape) (p : Part) (f d k : ℕ) (es : List Tree) (cs : List ℕ) → f < 2 ^ 32 → HaveShortRanges s p es → AllBelow f (levels_from s p d k es cs) → SizesFit (levels_from s p d k es cs)
sizes-fit s p f d k [] cs few h b = tt
sizes-fit s p f d k (e ∷ es) [] few h b = tt
sizes-fit s p f d k (e ∷ es) (c ∷ cs) few h b = (
  size-fits f (bound_of d p.queries e) (range_without s p e) few b.0 (h 0 (omega arith)).few,
  sizes-fit s p f d (suc k) es cs few (λ j lt. h (suc j) (omega (arith, lt))) b.1,
)

-- ---- all phases

keys-fit : (sorts : Bool) (ls : List PartLevel) → KeysFit (keys_of sorts ls) ls
keys-fit true ls = keys-fit-levels ls
keys-fit false ls = tt

module _ (sorts : Bool) (s : Shape) (p : Part) (cs : Columns) (bs : List ℕ) (n : ℕ) (x : PackedLoops) (loops : AreLoops sorts s p cs n (n + 16) x) where
  pub part-keeps : HaveShortRanges s p p.levels → AreLevels cs p.levels (lows_of s p) → length p.levels ≤ 16 → length x.part.levels.items ≡ length p.levels → length x.packs.items ≤ 17
      → FitRuns (length x.part.levels.items + 1) x.packs.items → AllBelow (n + 16) x.part.levels.items → cs.count < n → length cs.vars.items ≤ 32 → length bs ≤ 16 → n < 2 ^ 31
      → KeepText 4096 (part_phases cs p.levels (lows_of s p) bs n x)
  part-keeps ranges levels few number packs runs below count variables extents room =
      let ls : List PartLevel = part_levels s p cs n (n + 16) in
      let sizes : SizesFit ls = sizes-fit s p (n + 16) n 0 p.levels _ (omega (arith, room)) ranges (subst (AllBelow (n + 16)) loops.levels below) in
      let keys : KeysFit x.part.keys x.part.levels.items = subst (λ (ys : List PartLevel). KeysFit x.part.keys ys) (sym loops.levels) (subst (λ (o : Option ℕ). KeysFit o ls) (sym loops.keys) (keys-fit sorts ls)) in
      let built =
      packings-keep-limits x (n + 656)
      record {
        levels = omega (arith, number, few);
        packs = packs;
        runs = runs;
        count = omega (arith, loops.count, count, room);
        sizes = subst SizesFit (sym loops.levels) sizes;
        keys = keys;
        numbers = omega (arith, number, few, packs, room);
      } in
      let made = coordinates-keep-limits cs p.levels (lows_of s p) (n + 16) (omega (arith, count, room)) variables levels (lows-fit s p p.levels ranges) in
      text-looser (omega (arith, extents, few)) (append-keep {a = extents_phase bs n ∷ []} (extents-keep-limits bs n) (append-keep {a = coordinates_phase cs p.levels (lows_of s p) (n + 16) ∷ []} made built))

  pub part-unsorted : sorts ≡ false → HaveNoOrder (part_phases cs p.levels (lows_of s p) bs n x)
  part-unsorted unsorted =
      let none : x.part.keys ≡ None = loops.keys ∙ ap (λ (b : Bool). keys_of b (part_levels s p cs n (n + 16))) unsorted in
      ((sort-nothing.extents bs n).0, ((sort-nothing.coordinates cs p.levels (lows_of s p) (n + 16)).0, sort-nothing.packings x (n + 656) none))
