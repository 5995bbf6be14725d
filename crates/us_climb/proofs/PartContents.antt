-- What the buffers of any part hold, and the entry at a position of the part, by its layout.
use Rattle.std.specs.Prelude.{slice_get}
use Rattle.std.proofs.Common.{◌≡◌, ℕ, zero, suc, ◌+◌, ◌<◌, ◌≤◌, List, [], ◌∷◌, map, length, drop, get_or, Bool, true, false, cond, ℤ, refl, sym, ap, ap₂, ◌∙◌, arith, Option, Some, None}
use Rattle.std.proofs.lemmas.List.{drop-drop}
use Rattle.us_format.specs.Lists.{then_do, nth, cell}
use Rattle.us_format.specs.Matrix.{Shape, Entry, in_shape}
use Rattle.us_format.specs.Declaration.{Query, Part, Declaration, has_table}
use Rattle.us_format.specs.Kinds.{levels_of}
use Rattle.us_format.specs.Packs.{pieces}
use Rattle.us_format.specs.Climb.{climb, values}
use Rattle.us_format.specs.Recover.{recovered}
use Rattle.us_format.specs.Reading.{Contents, all_contents, all_tests, buffer_count, cells_in, contents, extent_count, extents_in, tables_in}
use Rattle.us_format.specs.Meaning.{entry_at, value_in}
use Rattle.us_judge.specs.Format.{part_at}
use Rattle.us_climb.specs.declared.layout.ColumnPlace.{ColumnPlace}
use Rattle.us_climb.specs.declared.layout.LevelLayout.{LevelLayout}
use Rattle.us_climb.specs.declared.layout.Layout.{Layout}
use Rattle.us_climb.specs.Layout.{IsLayout, cells_at, climb_by, first_failing}
use Rattle.us_climb.specs.Entries.{entry_in, value_at}
use Rattle.us_climb.specs.Own.{buffers_before}
use Rattle.us_climb.proofs.PartTests.{extents-first, fitting-next}
use Rattle.us_climb.proofs.Walks.{buffer-there, climb-there, values-there}

-- ---- where a part begins

pub contents-at : (ps : List Part) (k : ℕ) (bufs : List (List ℤ)) (p : Part) → k < length ps
    → slice_get (all_contents ps bufs) k ≡ Some (get_or ps k p, contents (get_or ps k p) (drop (buffers_before ps k) bufs))
contents-at [] k bufs p h = absurd (omega arith)
contents-at (q ∷ qs) zero bufs p h = refl
contents-at (q ∷ qs) (suc k) bufs p h =
    contents-at qs k (drop (buffer_count q) bufs) p (omega arith)
    ∙ ap (λ (xs : List (List ℤ)). let o : Option (Part × Contents) = Some (get_or qs k p, contents (get_or qs k p) xs) in o) (drop-drop (buffers_before qs k) (buffer_count q) bufs)

pub before-next : (ps : List Part) (k : ℕ) (p : Part) → k < length ps → buffers_before ps (suc k) ≡ buffers_before ps k + buffer_count (get_or ps k p)
before-next [] k p h = absurd (omega arith)
before-next (q ∷ qs) zero p h = omega arith
before-next (q ∷ qs) (suc k) p h = let ih : buffers_before qs (suc k) ≡ buffers_before qs k + buffer_count (get_or qs k p) = before-next qs k p (omega arith) in omega (arith, ih)

abbrev nothing : Part
nothing = record { names = 0; queries = []; levels = []; trim = []; merge = []; packs = [] }

-- where all parts fit, the part k and those behind it fit
pub fitting-at : (s : Shape) (d : Declaration) (bufs : List (List ℤ)) → first_failing (all_tests s 0 d.parts bufs) ≡ None → (k : ℕ) → k ≤ length d.parts
    → first_failing (all_tests s (buffers_before d.parts k) (drop k d.parts) (drop (buffers_before d.parts k) bufs)) ≡ None
fitting-at s d bufs e zero h = e
fitting-at s d bufs e (suc k) h =
    let below : k < length d.parts = omega (arith, h) in
    ap (λ (j : ℕ). first_failing (all_tests s j (drop (suc k) d.parts) (drop j bufs))) (before-next d.parts k nothing below)
    ∙ (fitting-next s d k (buffers_before d.parts k) bufs below (fitting-at s d bufs e k (omega (arith, h)))).1

-- ---- tables

module _ (f : ℕ) (bufs : List (List ℤ)) where
  pub tables-there : (k : ℕ) (qs : List Query) → tables_in (f + k) bufs qs ≡ tables_in k (drop f bufs) qs
  tables-there k [] = refl
  tables-there k (q ∷ qs) = go (has_table q) (λ j. tables-there j qs)
    where
      go : (b : Bool) → ((j : ℕ) → tables_in (f + j) bufs qs ≡ tables_in j (drop f bufs) qs) → cond b (nth bufs (f + k) ∷ tables_in (suc (f + k)) bufs qs) ([] ∷ tables_in (f + k) bufs qs)
          ≡ cond b (nth (drop f bufs) k ∷ tables_in (suc k) (drop f bufs) qs) ([] ∷ tables_in k (drop f bufs) qs)
      go true ih =
          ap₂ (λ (cells : List ℤ) (ts : List (List ℤ)). cells ∷ ts) (buffer-there f bufs k)
          (ap (λ j. tables_in j bufs qs) (let e : suc (f + k) ≡ f + suc k = omega arith in e) ∙ ih (suc k))
      go false ih = ap (λ (ts : List (List ℤ)). [] ∷ ts) (ih k)

-- ---- the entry at a position of the part k

module _ (s : Shape) (d : Declaration) (bufs : List (List ℤ)) (k f : ℕ) (there : k < length d.parts) (first : f ≡ buffers_before d.parts k) (l : Layout)
    (layout : IsLayout f s (extents_in f bufs (part_at d k).queries) (part_at d k) l) where
  abbrev p : Part
  p = part_at d k

  abbrev held : List (List ℤ)
  held = drop f bufs

  abbrev extents : List ℕ
  extents = extents_in f bufs p.queries

  abbrev tables : List (List ℤ)
  tables = tables_in (f + extent_count p) bufs p.queries

  part-contents : slice_get (all_contents d.parts bufs) k ≡ Some (p, contents p held)
  part-contents =
      contents-at d.parts k bufs nothing there
      ∙ ap (λ (j : ℕ). let o : Option (Part × Contents) = Some (p, contents p (drop j bufs)) in o) (sym first)

  -- the entry, where the queries have these extents and tables
  abbrev read_with : ℕ → List ℕ → List (List ℤ) → Option Entry
  read_with x ns ts =
      then_do (climb (levels_of s ns p) (map (cells_in p held) (pieces p)) x) (λ up.
      then_do (recovered s p (record { coords = up.1; extents = ns; tables = ts })) (λ ij. in_shape s ij (cell (values (levels_of s ns p) (map (cells_in p held) (pieces p))) x)))

  values-laid : values (levels_of s extents p) (map (cells_in p held) (pieces p)) ≡ cells_at l.values bufs
  values-laid = values-there f s extents p bufs 0 p.levels ∙ ap (λ (place : ColumnPlace). cells_at place bufs) (sym layout.values)

  pub part-entry : (x : ℕ) → entry_in s d bufs (k, x)
      ≡ then_do (climb_by l.levels.items bufs x)
      (λ up. then_do (recovered s p (record { coords = up.1; extents = extents; tables = tables })) (λ ij. in_shape s ij (cell (cells_at l.values bufs) x)))
  part-entry x =
      ap (λ (o : Option (Part × Contents)). then_do o (λ part. entry_at s part.0 part.1 x)) part-contents
      ∙ ap₂ (λ (ns : List ℕ) (ts : List (List ℤ)). read_with x ns ts) (sym (extents-first f bufs p.queries)) (sym (tables-there f bufs (extent_count p) p.queries))
      ∙ ap₂ (λ (o : Option (ℕ × List ℕ)) (vs : List ℤ). then_do o (λ up. then_do (recovered s p (record { coords = up.1; extents = extents; tables = tables })) (λ ij. in_shape s ij (cell vs x))))
      (climb-there f s extents p bufs 0 p.levels x ∙ ap (λ (ls : List LevelLayout). climb_by ls bufs x) (sym layout.levels))
      values-laid

  pub part-value : (x : ℕ) → value_at s d bufs (k, x) ≡ cell (cells_at l.values bufs) x
  part-value x =
      ap (λ (o : Option (Part × Contents)). value_in s o x) part-contents
      ∙ ap (λ (ns : List ℕ). cell (values (levels_of s ns p) (map (cells_in p held) (pieces p))) x) (sym (extents-first f bufs p.queries))
      ∙ ap (λ (vs : List ℤ). cell vs x) values-laid
