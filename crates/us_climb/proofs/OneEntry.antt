-- The entry at a position of a part, by its layout.
use Rattle.std.proofs.Common.{◌≡◌, ℕ, zero, suc, ◌<◌, List, [], ◌∷◌, map, length, get_or, ◌%◌, ◌/◌, Bool, true, false, cond, ltb, ℤ, pos, negsuc, ◌≤ℤ◌, ◌<ℤ◌, refl, sym, ap, ap₂, subst, ◌∙◌, arith, Option, Some, None}
use Rattle.std.specs.List.{All}
use Rattle.std.proofs.lemmas.Bool.Decides.{nat_tests}
use Rattle.std.proofs.lemmas.Int.{ints}
use Rattle.std.proofs.lemmas.List.{get_or-map, length-map}
use Rattle.us_expr.specs.declared.ranges.Range.{Range}
use Rattle.us_expr.specs.Tree.{Tree, RowIndex}
use Rattle.us_expr.specs.Range.{range}
use Rattle.us_format.specs.declared.Kind.{Kind}
use Rattle.us_format.specs.declared.Kind.TheVariants.{Full, Compressed, Listed, Slot}
use Rattle.us_format.specs.Lists.{then_do, nth, cell, nat_of}
use Rattle.us_format.specs.Matrix.{Shape, Entry, in_shape}
use Rattle.us_format.specs.Declaration.{Part, Declaration}
use Rattle.us_format.specs.Coordinates.{variable_ranges, level_range, span}
use Rattle.us_format.specs.Kinds.{kind}
use Rattle.us_format.specs.Climb.{as_coordinate, parent_of, up}
use Rattle.us_format.specs.Known.{Steps}
use Rattle.us_format.specs.Recover.{recovered, plan_of}
use Rattle.us_format.specs.Program.{plain_shape}
use Rattle.us_invert.specs.declared.recovering.Cell.{Cell}
use Rattle.us_invert.specs.Recovery.{cell_of, found_of, tables_of, HasCoordinate}
use Rattle.us_known.specs.Table.{tree_at}
use Rattle.us_invert.proofs.PlanRanges.{plan-coordinates}
use Rattle.us_decl.specs.Declares.{Declared}
use Rattle.us_judge.specs.Format.{part_at}
use Rattle.us_judge.specs.Views.{declaration_of}
use Rattle.us_matrix.specs.declared.shape.Shape as code
use Rattle.us_climb.specs.declared.layout.LevelLayout.{LevelLayout}
use Rattle.us_climb.specs.declared.layout.Layout.{Layout}
use Rattle.us_climb.specs.Layout.{IsLayout, level_layout, layout_from, cells_at, held_at, up_by, climb_by, IsClimbed}
use Rattle.us_climb.specs.Own.{buffers_before}
use Rattle.us_climb.specs.Entries.{entry_in}
use Rattle.us_climb.specs.Readers.{IsReader, extents_from, tables_from}
use Rattle.us_climb.proofs.PartContents.{part-entry}

-- ---- what a climb answers

pub climbed_none : (above : Option ℕ) (vs : List ℤ) (o : Option (ℕ × List ℕ)) → IsClimbed above vs o → above ≡ None → o ≡ None
climbed_none above vs None h e = refl
climbed_none above vs (Some u) h e = absurd (let q : None ≡ Some u.0 = sym e ∙ h.0 in cc)

-- the coordinates of a climb that got to the top
pub record IsTop (vs : List ℤ) (o : Option (ℕ × List ℕ)) : Type 0 where
  pub above : ℕ
  pub coords : List ℕ
  pub climb_is : o ≡ Some (above, coords)
  pub values_are : vs ≡ map pos coords

pub climbed_some : (above : Option ℕ) (q : ℕ) (vs : List ℤ) (o : Option (ℕ × List ℕ)) → IsClimbed above vs o → above ≡ Some q → IsTop vs o
climbed_some above q vs None h e = absurd (let p : None ≡ Some q = sym h ∙ e in cc)
climbed_some above q vs (Some u) h e = record { above = u.0; coords = u.1; climb_is = refl; values_are = h.1 }

-- ---- coordinates

then_some : {A B : Type 0} (o : Option A) (f : A → Option B) (b : B) → then_do o f ≡ Some b → (a : A) × (o ≡ Some a) × (f a ≡ Some b)
then_some None f b h = absurd cc
then_some (Some a) f b h = (a, refl, h)

second_of : {A B : Type 0} → B → Option (A × B) → B
second_of d None = d
second_of d (Some p) = p.1

second_same : {A B : Type 0} (a q : A) (b c : B) → ◌≡◌ {A = Option (A × B)} (Some (a, b)) (Some (q, c)) → b ≡ c
unfolding second_of
second_same a q b c h = ap (second_of b) h

coordinate_below : (size : ℕ) (z : ℤ) (c : ℕ) → as_coordinate size z ≡ Some c → c < size
coordinate_below size (pos a) c h = go (ltb a size) refl h
  where
    go : (b : Bool) → ltb a size ≡ b → cond b (Some a) None ≡ Some c → c < size
    go true e h = let q : a ≡ c = cc in grind (arith, nat_tests)
    go false e h = absurd cc
coordinate_below size (negsuc a) c h = absurd cc

up_below : (kd : Kind) (size : ℕ) (lists : List (List ℤ)) (x q c : ℕ) → up kd size lists x ≡ Some (q, c) → c < size
up_below Full size lists x q c h = let r = then_some (as_coordinate size (pos (x % size))) (λ a. Some (x / size, a)) (q, c) h in let e : r.0 ≡ c = second_same (x / size) q r.0 c r.2 in subst (λ n. n < size) e (coordinate_below size (pos (x % size)) r.0 r.1)
up_below Compressed size lists x q c h =
    let r = then_some (as_coordinate size (cell (nth lists 1) x)) (λ a. then_do (parent_of (nth lists 0) x) (λ p. Some (p, a))) (q, c) h in
    let t = then_some (parent_of (nth lists 0) x) (λ p. Some (p, r.0)) (q, c) r.2 in
    let e : r.0 ≡ c = second_same t.0 q r.0 c t.2 in subst (λ n. n < size) e (coordinate_below size _ r.0 r.1)
up_below Listed size lists x q c h =
    let r = then_some (as_coordinate size (cell (nth lists 1) x)) (λ a. then_do (parent_of (nth lists 0) x) (λ p. Some (p, a))) (q, c) h in
    let t = then_some (parent_of (nth lists 0) x) (λ p. Some (p, r.0)) (q, c) r.2 in
    let e : r.0 ≡ c = second_same t.0 q r.0 c t.2 in subst (λ n. n < size) e (coordinate_below size _ r.0 r.1)
up_below Slot size lists x q c h = let r = then_some (as_coordinate size (cell (nth lists 0) x)) (λ a. Some (x, a)) (q, c) h in let e : r.0 ≡ c = second_same x q r.0 c r.2 in subst (λ n. n < size) e (coordinate_below size _ r.0 r.1)

size_is : (f : ℕ) (p : Part) (k size : ℕ) (kd : Kind) → (level_layout f p k size kd).size ≡ size
size_is f p k size Full = refl
size_is f p k size Compressed = refl
size_is f p k size Listed = refl
size_is f p k size Slot = refl

-- as many coordinates as levels, each below the size of its level
abbrev pub AreBelow : Shape → List ℕ → Part → List Tree → List ℕ → Type 0
AreBelow s ns p [] cs = cs ≡ []
AreBelow s ns p (e ∷ es) cs = (c : ℕ) × (rest : List ℕ) × (cs ≡ c ∷ rest) × (c < span (level_range s ns p e)) × AreBelow s ns p es rest

module _ (f : ℕ) (s : Shape) (ns : List ℕ) (p : Part) (bufs : List (List ℤ)) where
  pub climb_below : (k : ℕ) (es : List Tree) (x q : ℕ) (cs : List ℕ) → climb_by (layout_from f s ns p k es) bufs x ≡ Some (q, cs) → AreBelow s ns p es cs
  climb_below k [] x q cs h = sym (second_same x q [] cs h)
  climb_below k (e ∷ es) x q cs h =
      let size : ℕ = span (level_range s ns p e) in
      let l : LevelLayout = level_layout f p k (span (level_range s ns p e)) (kind p k) in
      let r = then_some (climb_by (layout_from f s ns p (suc k) es) bufs x) (λ (y, ds). then_do (up_by l bufs y) (λ (t, c). Some (t, c ∷ ds))) (q, cs) h in
      let u = then_some (up_by l bufs r.0.0) (λ (t, c). Some (t, c ∷ r.0.1)) (q, cs) r.2 in
      let is : cs ≡ u.0.1 ∷ r.0.1 = sym (second_same u.0.0 q (u.0.1 ∷ r.0.1) cs u.2) in
      (u.0.1, r.0.1, is, subst (λ n. u.0.1 < n) (size_is f p k (span (level_range s ns p e)) (kind p k)) (up_below l.kind l.size (held_at l bufs) r.0.0 u.0.0 u.0.1 u.1), climb_below (suc k) es x r.0.0 r.0.1 r.1)

  below_at : (es : List Tree) (cs : List ℕ) → AreBelow s ns p es cs → (k : ℕ) → k < length es → (k < length cs) × (get_or cs k 0 < span (level_range s ns p (get_or es k RowIndex)))
  below_at [] cs h k l = absurd (omega arith)
  below_at (e ∷ es) cs (c, rest, is, b, more) zero l =
      subst (λ (xs : List ℕ). (0 < length xs) × (get_or xs 0 0 < span (level_range s ns p e))) (sym is) (omega arith, b)
  below_at (e ∷ es) cs (c, rest, is, b, more) (suc k) l =
      let ih = below_at es rest more k (omega arith) in
      subst (λ (xs : List ℕ). (suc k < length xs) × (get_or xs (suc k) 0 < span (level_range s ns p (get_or es k RowIndex)))) (sym is) (omega (arith, ih.0), ih.1)

  -- what the recovery wants of the coordinates
  pub coordinates-fit : (plan : Steps) (rows cols : ℕ) (vars : List Range) (vs : List ℤ) (cs : List ℕ) → plan ≡ plan_of p.levels p.queries → s.rows ≡ rows → s.cols ≡ cols → vars ≡ variable_ranges s ns p
      → vs ≡ map pos cs → AreBelow s ns p p.levels cs → All (HasCoordinate rows cols vars vs) plan
  coordinates-fit plan rows cols vars vs cs is r c v e below =
      subst (λ (steps : Steps). All (HasCoordinate rows cols vars vs) steps) (sym is) (plan-coordinates rows cols vars vs p.levels p.queries each)
    where
      each : (k : ℕ) → k < length p.levels → (k < length vs) × (pos 0 ≤ℤ cell vs k) × (cell vs k <ℤ pos (span (range rows cols vars (tree_at p.levels k))))
      each k l =
          let b : (k < length cs) × (get_or cs k 0 < span (level_range s ns p (get_or p.levels k RowIndex))) = below_at p.levels cs below k l in
          let long : k < length vs = subst (λ (zs : List ℤ). k < length zs) (sym e) (subst (λ n. k < n) (sym (length-map cs pos)) b.0) in
          let at : cell vs k ≡ pos (get_or cs k 0) = ap (λ (zs : List ℤ). cell zs k) e ∙ get_or-map pos cs k 0 (pos 0) b.0 in
          let size : span (level_range s ns p (get_or p.levels k RowIndex)) ≡ span (range rows cols vars (tree_at p.levels k)) =
          ap (λ m. span (range m s.cols (variable_ranges s ns p) (get_or p.levels k RowIndex))) r
          ∙ ap (λ m. span (range rows m (variable_ranges s ns p) (get_or p.levels k RowIndex))) c
          ∙ ap (λ (rs : List Range). span (range rows cols rs (get_or p.levels k RowIndex))) (sym v) in
          (long, subst (λ z. pos 0 ≤ℤ z) (sym at) (omega (arith, ints)), subst (λ z. z <ℤ pos (span (range rows cols vars (tree_at p.levels k)))) (sym at) (omega (arith, ints, b.1, size)))

-- ---- the entry

then_then : {A B C : Type 0} (o : Option A) (f : A → Option B) (g : B → Option C) → then_do o (λ a. then_do (f a) g) ≡ then_do (then_do o f) g
then_then None f g = refl
then_then (Some a) f g = refl

module _ (s : Shape) (d : Declaration) (bufs : List (List ℤ)) (k f : ℕ) (there : k < length d.parts) (first : f ≡ buffers_before d.parts k) (l : Layout)
    (layout : IsLayout f s (extents_from f bufs (part_at d k)) (part_at d k) l) where
  -- what is recovered at a position
  abbrev pub found_by : ℕ → Option (ℤ × ℤ)
  found_by x =
      then_do (climb_by l.levels.items bufs x)
      (λ up. recovered s (part_at d k) (record { coords = up.1; extents = extents_from f bufs (part_at d k); tables = tables_from f bufs (part_at d k) }))

  -- the pair of indices that is recovered, and the entry
  pub entry-recovered : (x : ℕ) (o : Option Cell) → cell_of o ≡ found_by x → entry_in s d bufs (k, x) ≡ then_do (cell_of o) (λ ij. in_shape s ij (cell (cells_at l.values bufs) x))
  entry-recovered x o h =
      part-entry s d bufs k f there first l layout x
      ∙ then_then (climb_by l.levels.items bufs x)
      (λ up. recovered s (part_at d k) (record { coords = up.1; extents = extents_from f bufs (part_at d k); tables = tables_from f bufs (part_at d k) }))
      (λ ij. in_shape s ij (cell (cells_at l.values bufs) x))
      ∙ ap (λ (r : Option (ℤ × ℤ)). then_do r (λ ij. in_shape s ij (cell (cells_at l.values bufs) x))) (sym h)

-- the entry and the value at a position, of the same part of the same buffers
pub entry-moved : (s t : code.Shape) (f g : Declared) (a b : List (List ℤ)) (m n x : ℕ) (o : Option Entry) → s ≡ t → f ≡ g → a ≡ b → m ≡ n → entry_in (plain_shape s) (declaration_of f) a (m, x) ≡ o
    → entry_in (plain_shape t) (declaration_of g) b (n, x) ≡ o
entry-moved s t f g a b m n x o p q r e h =
    ap (λ (z : code.Shape). entry_in (plain_shape z) (declaration_of g) b (n, x)) (sym p)
    ∙ ap₂ (λ (u : Declared) (bufs : List (List ℤ)). entry_in (plain_shape s) (declaration_of u) bufs (n, x)) (sym q) (sym r)
    ∙ ap (λ (k : ℕ). entry_in (plain_shape s) (declaration_of f) a (k, x)) (sym e) ∙ h

-- a reader of a part, by the number of the part's first buffer
pub reader-placed : (s : Shape) (d : Declaration) (number : ℕ) (bufs : List (List ℤ)) (l : Layout) {f g : ℕ} {plan : Steps} {parents : List (List ℕ)} {rows cols : ℕ} {vars : List Range} {at extents : List ℕ} → f ≡ g
    → IsReader s d number f bufs plan l parents rows cols vars at extents → IsReader s d number g bufs plan l parents rows cols vars at extents
reader-placed s d number bufs l {plan = plan} {parents = parents} {rows = rows} {cols = cols} {vars = vars} {at = at} {extents = extents} e h =
    subst (λ (j : ℕ). IsReader s d number j bufs plan l parents rows cols vars at extents) e h

-- coordinates as numbers
pub numbers-back : (cs : List ℕ) → map nat_of (map pos cs) ≡ cs
numbers-back [] = refl
numbers-back (c ∷ cs) = ap (λ (ds : List ℕ). c ∷ ds) (numbers-back cs)

-- what a climb left, with the extents and the tables of the queries
pub found-back : (s : Shape) (p : Part) (bufs : List (List ℤ)) (vs : List ℤ) (at extents cs ns : List ℕ) (ts : List (List ℤ)) → vs ≡ map pos cs → tables_of bufs at ≡ ts → extents ≡ ns
    → recovered s p (found_of vs bufs at extents) ≡ recovered s p (record { coords = cs; extents = ns; tables = ts })
found-back s p bufs vs at extents cs ns ts v a e =
    ap (λ (zs : List ℤ). recovered s p (found_of zs bufs at extents)) v
    ∙ ap₂ (λ (ds es : List ℕ). recovered s p (record { coords = ds; extents = es; tables = tables_of bufs at })) (numbers-back cs) e
    ∙ ap (λ (us : List (List ℤ)). recovered s p (record { coords = cs; extents = ns; tables = us })) a
