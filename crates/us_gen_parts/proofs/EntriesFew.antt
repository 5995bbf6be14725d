-- A part has no more entries than its size, and a declaration none either.
use Rattle.std.specs.Prelude.{Contains}
use Rattle.std.specs.List.{range_with_len}
use Rattle.std.proofs.Common.{ℕ, ◌<◌, ◌≤◌, List, [], ◌∷◌, map, length, true, inl, inr, refl, ap, subst, arith, sum_by}
use Rattle.std.proofs.lemmas.List.{length-map, take_all}
use Rattle.std.proofs.lemmas.List.FromFn.{length-map-range_with_len}
use Rattle.std.proofs.lemmas.List.Sums.{sum_by-cons}
use Rattle.us_format.specs.Lists.{head}
use Rattle.us_format.specs.Matrix.{Shape, Entry, IsMatrixOf}
use Rattle.us_format.specs.Declaration.{Part, Declaration}
use Rattle.us_format.specs.Kinds.{Level}
use Rattle.us_format.specs.Packs.{Buffer}
use Rattle.us_format.specs.Positions.{Row, count_below, down, row_of, rows_of, last_place}
use Rattle.us_format.specs.Buffers.{buffers_at, level_buffers, val_buffer, parts_of, size}
use Rattle.us_format.specs.Reading.{limit}
use Rattle.us_format.specs.Rules.{IsLawful, IsLawfulDeclaration}
use Rattle.us_format.specs.Laws.{cells_of, position_of, unpacked_size}
use Rattle.us_format.proofs.Collect.{range-Mem}
use Rattle.us_format.proofs.Lawful.{row-major}
use Rattle.us_format.proofs.Members.{Mem-contains}
use Rattle.us_format.proofs.Order.{Mem, Mem-map, Mem-of_map}
use Rattle.us_format.proofs.PackSizes.{packing-keeps-size}
use Rattle.us_format.proofs.Shuffled.{count-within, count-all}
use Rattle.us_format_loops.specs.Laws.{levels_on}
use Rattle.us_format_loops.specs.Nodes.{count_after}
use Rattle.us_format_loops.proofs.Counts.{distinct-map, distinct-entries}
use Rattle.us_format_loops.proofs.Filled.{positions-tell, positions-follow-coordinates}
use Rattle.us_format_loops.proofs.Parts.{parts-share-entries}
use Rattle.us_format_loops.proofs.Small.{part-of-sum, cells-append}

-- all positions are counted by the cells of the values
pub last-counted : (ls : List Level) (n : ℕ) (rows : List Row) → count_after ls n rows ≤ cells_of (level_buffers ls n rows)
last-counted [] n rows = omega (arith, sum_by-cons (λ (b : Buffer). b.len) (val_buffer n rows) [])
last-counted (l ∷ ls) n rows =
    omega (
      arith,
      last-counted ls (count_below l.kind l.size n rows) (down l.kind l.size rows),
      cells-append (buffers_at l.kind l.size n rows) (level_buffers ls (count_below l.kind l.size n rows) (down l.kind l.size rows)),
    )

module _ (s : Shape) (p : Part) (m : List Entry) (la : IsLawful p) (im : IsMatrixOf s m) where
  abbrev all_positions : ℕ
  all_positions = count_after (levels_on s p m) 1 (rows_of m s p)

  below : (x : Entry) → Contains m x → position_of s p m x < all_positions
  below x cx =
      subst (λ (ls : List Level). last_place ls (rows_of m s p) (row_of m s p x) < count_after ls 1 (rows_of m s p)) (take_all (length (levels_on s p m)) (levels_on s p m) (omega arith))
      (positions-follow-coordinates s p m la im (length (levels_on s p m)) x x cx cx).below

  abbrev alone : Entry → List ℕ
  alone x = position_of s p m x ∷ []

  there : (y : List ℕ) → Mem y (map alone m) → Mem y (map (λ k. k ∷ []) (range_with_len 0 all_positions))
  there y i =
      let a = Mem-of_map alone y m i in
      subst (λ (z : List ℕ). Mem z (map (λ k. k ∷ []) (range_with_len 0 all_positions))) a.2
      (Mem-map (λ k. k ∷ []) (position_of s p m a.0) (range_with_len 0 all_positions) (range-Mem 0 all_positions (position_of s p m a.0) (omega arith) (omega (arith, below a.0 (Mem-contains m a.0 a.1)))))

  pub entries-counted : length m ≤ all_positions
  entries-counted =
      omega (
        arith,
        count-within (λ _. true) (map alone m) (map (λ k. k ∷ []) (range_with_len 0 all_positions))
            (distinct-map alone m (λ x y mx my e. positions-tell s p m la im x y mx my (ap head e)) (distinct-entries m (row-major m im.sorted))) there,
        count-all (map alone m),
        count-all (map (λ k. k ∷ []) (range_with_len 0 all_positions)),
        length-map m alone,
        length-map-range_with_len (λ k. k ∷ []) 0 all_positions,
      )

  pub entries-within : length m ≤ unpacked_size s p m
  entries-within = omega (arith, entries-counted, last-counted (levels_on s p m) 1 (rows_of m s p))

sums : (f g : Part × List Entry → ℕ) (ys : List (Part × List Entry)) → ((y : Part × List Entry) → Mem y ys → f y ≤ g y) → sum_by f ys ≤ sum_by g ys
sums f g [] h = omega arith
sums f g (y ∷ ys) h = omega (arith, sum_by-cons f y ys, sum_by-cons g y ys, h y (inl refl), sums f g ys (λ z i. h z (inr i)))

module _ (s : Shape) (d : Declaration) (m : List Entry) (la : IsLawfulDeclaration d) (im : IsMatrixOf s m) (within : size s d m ≤ limit) where
  each : (y : Part × List Entry) → Mem y (parts_of s d m) → length y.1 ≤ unpacked_size s y.0 y.1
  each y i = let h = (parts-share-entries s d m la im).lawful y (Mem-contains (parts_of s d m) y i) in entries-within s y.0 y.1 h.0 h.2

  -- the entries of a part, and all entries
  pub part-few : (y : Part × List Entry) → Mem y (parts_of s d m) → length y.1 ≤ limit
  part-few y i =
      omega (arith, within, each y i, packing-keeps-size.of_parts s d m la, part-of-sum (λ (x : Part × List Entry). unpacked_size s x.0 x.1) y (parts_of s d m) i)

  pub all-few : length m ≤ limit
  all-few =
      omega (
        arith,
        within,
        (parts-share-entries s d m la im).number,
        sums (λ (y : Part × List Entry). length y.1) (λ (y : Part × List Entry). unpacked_size s y.0 y.1) (parts_of s d m) each,
        packing-keeps-size.of_parts s d m la,
      )
