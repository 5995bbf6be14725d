-- Columns of entries hold rows.
use Rattle.std.proofs.Common.{◌≡◌, ℕ, ◌<◌, List, [], ◌∷◌, ◌++◌, map, length, sym, ap, ◌∙◌, subst, arith, ℤ, pos, ◌+◌, ◌*◌, inl, Option}
use Rattle.std.proofs.lemmas.List.{get_or-map, length-map}
use Rattle.std.proofs.lemmas.List.Sorted.{IsPermutation-map}
use Rattle.std.specs.Prelude.{slice_index_or}
use Rattle.us_expr.specs.Tree.{Tree}
use Rattle.us_format.specs.Lists.{cell, head, tail}
use Rattle.us_format.specs.Matrix.{Shape, Entry}
use Rattle.us_format.specs.Declaration.{Part}
use Rattle.us_format.specs.Coordinates.{coordinate}
use Rattle.us_format.specs.Positions.{Row, row_of}
use Rattle.us_gen_build.specs.Loops.{Columns}
use Rattle.us_gen_build_laws.specs.Rows.{no_row, row}
use Rattle.us_build_loops.specs.Orders.{HoldKeys}
use Rattle.us_gen_building.specs.declared.part.PartLevel.{PartLevel}
use Rattle.us_gen_building.specs.Levels.{columns}
use Rattle.us_code.specs.Runs.{World, phases}
use Rattle.us_format.specs.Kinds.{Level}
use Rattle.us_format_loops.specs.Laws.{levels_on}
use Rattle.us_gen.specs.Goes.{Leads}
use Rattle.us_gen_building.specs.declared.part.PartLoops.{PartLoops}
use Rattle.us_gen_building.specs.Entries.{HoldCoordinates, rows_in, EntriesAreRows, IsGiven, Builds, EntriesAreBuilt}
use Rattle.us_gen_building.specs.Keys.{order_keys}
use Rattle.us_gen_building.specs.Phases.{building_phases}
use Rattle.us_gen_building.specs.Runs.{IsOrder, AreBuilt, cells_of}
use Rattle.us_gen_building.proofs.Building.{phases_build}
use Rattle.us_gen_building.proofs.Enough.{keys_enough}

abbrev no_entry : Entry
no_entry = record { i = 0; j = 0; v = pos 0 }

abbrev entry : List Entry → ℕ → Entry
entry es y = slice_index_or es y no_entry

row_is : (m : List Entry) (s : Shape) (p : Part) (es : List Entry) (y : ℕ) → y < length es → row (rows_in m s p es) y ≡ row_of m s p (entry es y)
row_is m s p es y h = get_or-map (row_of m s p) es y no_entry no_row h

keys_held : (bufs : ℕ → List ℤ) (f : ℕ) (m : List Entry) (s : Shape) (p : Part) (es : List Entry) (ls : List PartLevel) (exprs : List Tree) (rest : ℕ → List ℕ) → ((y : ℕ) → y < length es → rest y ≡ map (coordinate m s p (entry es y)) exprs)
    → HoldCoordinates bufs f m s p es ls exprs → HoldKeys (map bufs (columns ls)) (length es) rest
keys_held bufs f m s p es [] [] rest e h = tt
keys_held bufs f m s p es (l ∷ ls) (t ∷ exprs) rest e h = (
  (λ y lt. ap (λ (xs : List ℤ). cell xs y) h.1 ∙ (get_or-map (λ (z : Entry). pos (coordinate m s p z t)) es y no_entry (pos 0) lt ∙ ap (λ (cs : List ℕ). pos (head cs)) (sym (e y lt)))),
  keys_held bufs f m s p es ls exprs (λ y. tail (rest y)) (λ y lt. ap tail (e y lt)) h.2,
)
keys_held bufs f m s p es [] (t ∷ exprs) rest e h = absurd h
keys_held bufs f m s p es (l ∷ ls) [] rest e h = absurd h

columns_held : (bufs : ℕ → List ℤ) (f : ℕ) (m : List Entry) (s : Shape) (p : Part) (es : List Entry) (ls : List PartLevel) (exprs : List Tree) (b : ℕ) → HoldCoordinates bufs f m s p es ls exprs → b < f → length (bufs b) ≡ length es → Columns f (length es) bufs (columns ls ++ b ∷ [])
columns_held bufs f m s p es [] [] b h lt e = (lt, e, tt)
columns_held bufs f m s p es (l ∷ ls) (t ∷ exprs) b h lt e = (h.0, ap (λ (xs : List ℤ). length xs) h.1 ∙ length-map es (λ z. pos (coordinate m s p z t)), columns_held bufs f m s p es ls exprs b h.2 lt e)
columns_held bufs f m s p es [] (t ∷ exprs) b h lt e = absurd h
columns_held bufs f m s p es (l ∷ ls) [] b h lt e = absurd h

pub entries_are_rows : EntriesAreRows
entries_are_rows x f s p m es u h =
    let long : length (rows_in m s p es) ≡ length es = length-map es (row_of m s p) in (
      IsPermutation-map (row_of m s p) m es h.shuffled,
      record {
        count = h.count ∙ sym long;
        long = subst (λ (n : ℕ). Columns f n u.bufs (columns x.levels.items ++ x.values ∷ [])) (sym long) (columns_held u.bufs f m s p es x.levels.items p.levels x.values h.coordinates h.values_below (ap (λ (xs : List ℤ). length xs) h.values ∙ length-map es (λ z. z.v)));
        coordinates = subst (λ (n : ℕ). HoldKeys (map u.bufs (columns x.levels.items)) n (λ y. (row (rows_in m s p es) y).rest)) (sym long) (keys_held u.bufs f m s p es x.levels.items p.levels (λ y. (row (rows_in m s p es) y).rest) (λ y lt. ap (λ (r : Row). r.rest) (row_is m s p es y lt)) h.coordinates);
        values = λ y lt.
            let low : y < length es = omega (arith, lt, long) in
            ap (λ (xs : List ℤ). cell xs y) h.values ∙ (get_or-map (λ (z : Entry). z.v) es y no_entry (pos 0) low ∙ ap (λ (r : Row). r.value) (sym (row_is m s p es y low)));
      },
    )

-- ---- the phases on entries

module _ (x : PartLoops) (f : ℕ) (s : Shape) (p : Part) (m es : List Entry) (w : World) (g : IsGiven x f s p m es w) where
  number : length (rows_in m s p es) ≡ length es
  number = length-map es (row_of m s p)

  tops : (y : ℕ) → y < length (rows_in m s p es) → (row (rows_in m s p es) y).at ≡ 0
  tops y lt = ap (λ (r : Row). r.at) (row_is m s p es y (omega (arith, lt, number)))

  built : IsOrder x.keys (levels_on s p m) (rows_in m s p es) → Builds x f s p m es w
  built order =
      let h = entries_are_rows x f s p m es w g.hold in
      subst (λ (n : ℕ). Leads f (64 * (1 + length x.levels.items) * (n + 1 + cells_of s p m)) w (phases (building_phases x f) w) (AreBuilt x f s p m)) number
      (phases_build x f s p m (rows_in m s p es) w record {
        loops = record { lawful = g.lawful; matrix = g.matrix; shuffled = h.0; levels = g.levels; below = g.below; count_below = g.count_below; few = omega (arith, g.few, number); small = g.small };
        orderly = g.orderly;
        order = order;
        hold = h.1;
      })

pub entries_are_built : EntriesAreBuilt
entries_are_built = record {
  in_any_order = λ x f s p m es w e g.
      built x f s p m es w g
      (subst (λ (k : Option ℕ). IsOrder k (levels_on s p m) (rows_in m s p es)) (sym e)
      (subst (λ (ls : List Level). IsOrder (order_keys x.levels.items) ls (rows_in m s p es)) g.levels (keys_enough w.env x.levels.items (rows_in m s p es) g.orderly (tops x f s p m es w g))));
  in_order = λ x f s p m es w e a g. built x f s p m es w g (subst (λ (k : Option ℕ). IsOrder k (levels_on s p m) (rows_in m s p es)) (sym e) (inl a));
}
