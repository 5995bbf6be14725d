-- The rows of a lawful part.
use Rattle.std.specs.List.Sorted.{IsPermutation}
use Rattle.std.proofs.Common.{◌≡◌, ℕ, ◌<◌, List, length, map, get_or, true, sym, ap, ◌∙◌, subst, arith, pos}
use Rattle.std.proofs.lemmas.List.{get_or-map, length-map}
use Rattle.us_format.specs.Lists.{tail}
use Rattle.us_format.specs.Matrix.{Shape, Entry, IsMatrixOf, earlier}
use Rattle.us_format.specs.Declaration.{Part}
use Rattle.us_format.specs.Coordinates.{coordinates}
use Rattle.us_format.specs.Packs as packs
use Rattle.us_format.specs.Positions.{Row, row_of, rows_of}
use Rattle.us_format.specs.Rules.{IsLawful}
use Rattle.us_format.proofs.Collect.{earlier-irrefl}
use Rattle.us_format.proofs.Members.{Mem-contains}
use Rattle.us_format.proofs.Climb.{Placed, SlotsTell}
use Rattle.us_format.proofs.PartLaw.{top-placed, top-slots}
use Rattle.us_format.proofs.Lawful.{sound, positions-ascend}
use Rattle.us_format.proofs.Shuffled.{shuffled-level_buffers}
use Rattle.us_format_loops.specs.Laws.{levels_on}
use Rattle.us_build.specs.Items.{key}
use Rattle.us_build.proofs.Counts.{Mem-at}
use Rattle.us_build.proofs.Readiness.{placed-shuffled, slots-shuffled}
use Rattle.us_gen_build_laws.specs.Rows.{no_row, row, KeysDiffer}
use Rattle.us_gen_build_laws.specs.Laws.{SortedRowsAreReady, PiecesAreBuilt}
use Rattle.us_gen_build_laws.proofs.Ready.{differ-shuffled, sorted-ordered, ready-from}
use Rattle.us_gen_build_laws.proofs.Levels.{buffers-built}

module _ (s : Shape) (p : Part) (m : List Entry) (la : IsLawful p) (im : IsMatrixOf s m) where
  pub placed-top : Placed (levels_on s p m) 1 (rows_of m s p)
  placed-top = top-placed m s p (sound s p m la im)

  pub slots-top : SlotsTell (levels_on s p m) (rows_of m s p)
  slots-top = top-slots m s p (sound s p m la im)

  pub differ-top : KeysDiffer (rows_of m s p)
  differ-top i j d a b q =
      let none : Entry = record { i = 0; j = 0; v = pos 0 } in
      let k : j < length m = omega (arith, b, length-map m (row_of m s p)) in
      let x : Entry = get_or m i none in
      let y : Entry = get_or m j none in
      let f : get_or (rows_of m s p) i d ≡ row_of m s p x = get_or-map (row_of m s p) m i none d (omega arith) in
      let g : get_or (rows_of m s p) j d ≡ row_of m s p y = get_or-map (row_of m s p) m j none d k in
      let c : coordinates m s p x ≡ coordinates m s p y = ap tail (sym (ap key f) ∙ (q ∙ ap key g)) in
      let e : x ≡ y = positions-ascend.apart s p m la im x y (Mem-contains m x (Mem-at m i none (omega arith))) (Mem-contains m y (Mem-at m j none k)) c in
      earlier-irrefl y (subst (λ (z : Entry). earlier z y ≡ true) e (im.sorted i j none a k))

  module _ (rows : List Row) (h : IsPermutation (rows_of m s p) rows) where
    pub placed-rows : Placed (levels_on s p m) 1 rows
    placed-rows = placed-shuffled (levels_on s p m) 1 (rows_of m s p) rows h placed-top

    pub slots-rows : SlotsTell (levels_on s p m) rows
    slots-rows = slots-shuffled (levels_on s p m) (rows_of m s p) rows h slots-top

    pub at-top : (x : ℕ) → x < length rows → 0 ≡ (row rows x).at
    at-top x l = omega (arith, placed-rows.below (row rows x) (Mem-at rows x no_row l))

pub sorted-ready : SortedRowsAreReady
sorted-ready s p m rows la im h o =
    ready-from (levels_on s p m) 1 rows (placed-rows s p m la im rows h) (slots-rows s p m la im rows h) (differ-shuffled (rows_of m s p) rows h (differ-top s p m la im))
    (sorted-ordered (levels_on s p m) 1 rows (placed-rows s p m la im rows h) (slots-rows s p m la im rows h) o)

pub pieces-built : PiecesAreBuilt
pieces-built s p m rows la im h o ts cs values taken b =
    buffers-built ts (levels_on s p m) cs values 1 rows (λ x. 0) (sorted-ready s p m rows la im h o) taken (at-top s p m la im rows h) b
    ∙ ap (map packs.written) (shuffled-level_buffers (levels_on s p m) 1 (rows_of m s p) rows h (placed-top s p m la im) (slots-top s p m la im))
