-- The columns of the levels hold the coordinates of the rows.
use Rattle.std.proofs.Common.{◌≡◌, ℕ, zero, suc, ◌+◌, ◌^◌, ◌<◌, ◌≤◌, refl, sym, ap, ◌∙◌, subst, arith, List, [], ◌∷◌, map, length, inl, inr, Option, Some, None, ◌*◌, pos, negsuc, ℤ, ◌+ℤ◌, ◌-ℤ◌, ◌≤ℤ◌}
use Rattle.std.specs.Prelude.{slice_index_or}
use Rattle.std.proofs.lemmas.Int.{ints}
use Rattle.std.proofs.lemmas.List.{get_or-map, length-map}
use Rattle.std.proofs.lemmas.List.FromFn.{length-map-range_with_len, get_or-map-range_with_len}
use Rattle.us_code.specs.declared.pieces.Columns.{Columns}
use Rattle.us_code.specs.Runs.{World}
use Rattle.us_expr.specs.Tree.{Tree, node_count}
use Rattle.us_expr.specs.Value.{IsIndex, IsWithin}
use Rattle.us_format.specs.Lists.{head, tail, nat_of}
use Rattle.us_format.specs.Matrix.{Entry, Shape}
use Rattle.us_format.specs.Declaration.{Part}
use Rattle.us_format.specs.Queries.{variable_at, variables_at, extents_of}
use Rattle.us_format.specs.Coordinates.{coordinate, coordinates, level_range, span, value_at}
use Rattle.us_format.proofs.Order.{Mem}
use Rattle.us_format.proofs.Members.{all-Mem, Mem-contains}
use Rattle.us_format.proofs.Agree.{level-lies, coordinate-below}
use Rattle.us_format.proofs.Lawful.{sound}
use Rattle.us_format.proofs.Shuffled.{Mem-shuffled}
use Rattle.us_build.proofs.Counts.{Mem-at}
use Rattle.std.proofs.lemmas.List.Sorted.{IsPermutation-sym}
use Rattle.us_query_loops.specs.Sorted.{entry_at}
use Rattle.us_gen.proofs.Going.{leads_weaker}
use Rattle.us_gen_query.specs.Terms.{point}
use Rattle.us_gen_query.specs.Filling.{column, width, Entries}
use Rattle.us_gen_counting.proofs.Keys.{nothing, column_is, points}
use Rattle.us_gen_coordinates.specs.Phase.{given, or_new, column_for, columns_for}
use Rattle.us_gen_coordinates.specs.Laws.{AreLevels, AreCoordinates, HoldCoordinates}
use Rattle.us_gen_coordinates.specs.Held.{lows_of, IsReadable, HoldLevels, CoordinatesHeld}
use Rattle.us_gen_coordinates.proofs.Filled.{given_below}
use Rattle.us_gen_coordinates.proofs.Leading.{coordinates_lead}

-- a number that is not below the low end
above_low : (v low : ℤ) → low ≤ℤ v → v ≡ pos (nat_of (v -ℤ low)) +ℤ low
above_low v low le = go (v -ℤ low) refl
  where
    go : (z : ℤ) → z ≡ v -ℤ low → v ≡ pos (nat_of z) +ℤ low
    go (pos k) e = omega (arith, ints, e)
    go (negsuc k) e = absurd (omega (arith, ints, e, le))

module _ (w : World) (cs : Columns) (s : Shape) (p : Part) (m es : List Entry) (n : ℕ) (r : IsReadable w cs s p m es n) where
  abbrev entry : ℕ → Entry
  entry x = entry_at es x

  there : (x : ℕ) → x < length es → Mem (entry x) m
  there x lt = Mem-shuffled es m (entry x) (IsPermutation-sym m es r.entries.shuffled) (Mem-at es x nothing lt)

  long : (c : ℕ) → c < width cs → length (w.bufs (column cs c)) ≡ length es
  long zero lt = ap (λ (xs : List ℤ). length xs) r.entries.rows ∙ length-map es (λ x. pos x.i)
  long (suc zero) lt = ap (λ (xs : List ℤ). length xs) r.entries.cols ∙ length-map es (λ x. pos x.j)
  long (suc (suc v)) lt =
      let lv : v < length cs.vars.items = omega (arith, lt) in
      ap (λ (xs : List ℤ). length xs) (r.variables v lv (r.named v (omega (arith, lv, r.names)))) ∙ length-map es (variable_at m s p.queries v)

  variable : (v x : ℕ) → v < p.names → slice_index_or (variables_at m s p (entry x)) v (pos 0) ≡ variable_at m s p.queries v (entry x)
  variable v x lt = get_or-map-range_with_len (λ (k : ℕ). variable_at m s p.queries k (entry x)) 0 p.names v v (pos 0) lt (omega arith)

  cells : (c x : ℕ) → c < width cs → x < length es → slice_index_or (w.bufs (column cs c)) x (pos 0) ≡ point (pos (entry x).i) (pos (entry x).j) (variables_at m s p (entry x)) c
  cells zero x lt lx = ap (λ (xs : List ℤ). slice_index_or xs x (pos 0)) r.entries.rows ∙ get_or-map (λ (y : Entry). pos y.i) es x nothing (pos 0) lx
  cells (suc zero) x lt lx = ap (λ (xs : List ℤ). slice_index_or xs x (pos 0)) r.entries.cols ∙ get_or-map (λ (y : Entry). pos y.j) es x nothing (pos 0) lx
  cells (suc (suc v)) x lt lx =
      let lv : v < length cs.vars.items = omega (arith, lt) in
      let ln : v < p.names = omega (arith, lv, r.names) in
      ap (λ (xs : List ℤ). slice_index_or xs x (pos 0)) (r.variables v lv (r.named v ln)) ∙ (get_or-map (variable_at m s p.queries v) es x nothing (pos 0) lx ∙ sym (variable v x ln))

  many : (x : ℕ) → length (variables_at m s p (entry x)) ≡ p.names
  many x = length-map-range_with_len (λ (k : ℕ). variable_at m s p.queries k (entry x)) 0 p.names

  held : Entries w.env cs w.bufs (length es) (λ x. pos (entry x).i) (λ x. pos (entry x).j) (λ x. variables_at m s p (entry x))
  held = record {
    count = r.entries.count;
    long = long;
    cells = cells;
    points = λ x lx.
        let q = points s m es r.matrix r.entries.shuffled r.rows r.cols x lx in
        record {
          row = q.row;
          col = q.col;
          each = λ v lv.
              let ln : v < p.names = omega (arith, lv, many x) in
              subst (λ (z : ℤ). IsIndex z) (sym (variable v x ln)) (r.indices v (entry x) ln (Mem-contains m (entry x) (there x lx)));
        };
    variables = λ x lx. many x ∙ sym r.names;
  }

  abbrev low_of : Tree → ℤ
  low_of e = (level_range s (extents_of m s p) p e).lo

  levels : (ls : List Tree) → ((e : Tree) → Mem e ls → Mem e p.levels) → AreLevels cs ls (map low_of ls)
  levels [] among = tt
  levels (e ∷ ls) among = (
    subst (λ (k : ℕ). IsWithin k e) (sym r.names) (all-Mem (IsWithin p.names) p.levels e r.lawful.levels_valid (among e (inl refl))),
    all-Mem (λ (d : Tree). node_count d ≤ 32) p.levels e r.short (among e (inl refl)),
    levels ls (λ d md. among d (inr md)),
  )

  numbers : (ls : List Tree) → ((e : Tree) → Mem e ls → Mem e p.levels)
      → AreCoordinates (λ x. pos (entry x).i) (λ x. pos (entry x).j) (λ x. variables_at m s p (entry x)) (length es) ls (map low_of ls) (λ x. map (coordinate m s p (entry x)) ls)
  numbers [] among = tt
  numbers (e ∷ ls) among = (
    (λ x lx.
        let so = sound s p m r.lawful r.matrix in
        let me = among e (inl refl) in (
          above_low (value_at m s p (entry x) e) (low_of e) (level-lies m s p so (entry x) (there x lx) e me).low,
          omega (arith, coordinate-below m s p so (entry x) (there x lx) e me, all-Mem (λ (d : Tree). span (level_range s (extents_of m s p) p d) ≤ 2 ^ 62) p.levels e r.sizes me),
        )),
    numbers ls (λ d md. among d (inr md)),
  )

  -- a column is one of the entries' or a new one
  column_under : (e : Tree) (low : ℤ) (k : ℕ) → n ≤ k → IsWithin (length cs.vars.items) e → column_for cs e low k < k + 1
  column_under e low k le within = go (given cs e low) refl
    where
      go : (o : Option ℕ) → given cs e low ≡ o → or_new (given cs e low) k < k + 1
      go None q = subst (λ (o : Option ℕ). or_new o k < k + 1) (sym q) (omega arith)
      go (Some c) q = let lt = given_below cs e low c n r.below within q in subst (λ (o : Option ℕ). or_new o k < k + 1) (sym q) (omega (arith, lt, le))

  as_levels : (bufs : ℕ → List ℤ) (ls : List Tree) (k f : ℕ) (c : ℕ → List ℕ) → n ≤ k → k + 40 * length ls ≤ f → AreLevels cs ls (map low_of ls) → ((x : ℕ) → x < length es → c x ≡ map (coordinate m s p (entry x)) ls) → HoldCoordinates bufs cs ls (map low_of ls) k (length es) c
      → HoldLevels bufs f s p m es (columns_for cs ls (map low_of ls) k) ls
  as_levels bufs [] k f c le room are e h = tt
  as_levels bufs (l ∷ ls) k f c le room are e h =
      let under : column_for cs l (low_of l) k < k + 1 = column_under l (low_of l) k le are.0 in (
        omega (arith, under, room),
        column_is (λ (x : Entry). pos (coordinate m s p x l)) nothing (bufs (column_for cs l (low_of l) k)) es h.0.long (λ x lx. h.0.each x lx ∙ ap (λ (xs : List ℕ). pos (head xs)) (e x lx)),
        as_levels bufs ls (k + 40) f (λ x. tail (c x)) (omega (arith, le)) (omega (arith, room)) are.2 (λ x lx. ap tail (e x lx)) h.1,
      )

pub coordinates_held : CoordinatesHeld
coordinates_held w cs s p m es n r =
    let are : AreLevels cs p.levels (lows_of s p m) = levels w cs s p m es n r p.levels (λ e me. me) in
    leads_weaker n _ w _ _ _
    (λ u h keeps. as_levels w cs s p m es n r u.bufs p.levels n (n + 40 * length p.levels) (λ x. coordinates m s p (entry_at es x)) (omega arith) (omega arith) are (λ x lx. refl) h)
    (coordinates_lead w cs p.levels (lows_of s p m) n (length es) (λ x. pos (entry_at es x).i) (λ x. pos (entry_at es x).j) (λ x. variables_at m s p (entry_at es x)) (λ x. coordinates m s p (entry_at es x))
    (held w cs s p m es n r) r.few r.below are (numbers w cs s p m es n r p.levels (λ e me. me)))
