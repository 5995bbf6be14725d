-- What is built of sorted items is what a part keeps.
use Rattle.std.specs.List.{range_with_len, sum, sum_by}
use Rattle.std.specs.List.Sorted.{IsPermutation, IsSortedBy}
use Rattle.std.proofs.Common.{◌≡◌, ℕ, ◌+◌, ◌-◌, ◌^◌, ◌<◌, ◌≤◌, List, [], ◌∷◌, map, length, get_or, take, drop, replicate, true, ℤ, pos, sym, refl, ap, ap₂, ◌∙◌, subst, arith, All}
use Rattle.std.proofs.lemmas.Bool.{false≢true}
use Rattle.std.proofs.lemmas.Int.{ints}
use Rattle.std.proofs.lemmas.List.{get_or-map, length-map, length-replicate, take_at}
use Rattle.std.proofs.lemmas.List.Elements.{All-head, All-map, All-tail}
use Rattle.std.proofs.lemmas.List.FromFn.{get_or-map-range_with_len, length-map-range_with_len}
use Rattle.std.proofs.lemmas.List.Sorted.{All-permutation, IsPermutation-map, length_permutation}
use Rattle.us_expr.specs.declared.expression.Expr.{Expr}
use Rattle.us_expr.specs.declared.queries.Query.{Query as QueryCode}
use Rattle.us_expr.specs.declared.ranges.Range.{Range}
use Rattle.us_expr.specs.Range.{IsRangeable, range_at}
use Rattle.us_expr.specs.Tree.{Tree, tree}
use Rattle.us_expr.specs.Value.{IsIndex, IsWithin}
use Rattle.us_matrix.specs.declared.matrix.Triple.{Triple}
use Rattle.us_matrix.specs.declared.shape.Shape as code
use Rattle.us_format.specs.declared.Kind.{Kind}
use Rattle.us_format.specs.Buffers.{level_buffers, piece_buffers}
use Rattle.us_format.specs.Coordinates.{coordinates, variable_range}
use Rattle.us_format.specs.Declaration.{Part, Query, query_of}
use Rattle.us_format.specs.Kinds as plain
use Rattle.us_format.specs.Matrix.{Entry, Shape, earlier}
use Rattle.us_format.specs.Packs.{Buffer}
use Rattle.us_format.specs.Positions.{Row, counts, rows_of}
use Rattle.us_format.specs.Program.{plain_entries, plain_entry, plain_shape}
use Rattle.us_format.specs.Queries.{extent_of, extents_of, variable_at}
use Rattle.us_format.specs.Reading.{limit}
use Rattle.us_format.specs.Rules.{IsLawful}
use Rattle.us_format.proofs.Agree.{level-lies}
use Rattle.us_format.proofs.Climb.{Placed, SlotsTell}
use Rattle.us_format.proofs.FromProgram.{lawful-placed, lawful-slots}
use Rattle.us_format.proofs.Lawful.{earlier-self, positions-ascend, sound}
use Rattle.us_format.proofs.Members.{Mem-all, Mem-contains, all-Mem}
use Rattle.us_format.proofs.Order.{Mem, Mem-of_map}
use Rattle.us_format.proofs.Shuffled.{shuffled-counts, shuffled-level_buffers}
use Rattle.us_variables.specs.Counted.{IsCountable, value_in, values_in}
use Rattle.us_variables.specs.declared.variables.Variables.{Variables}
use Rattle.us_build.specs.declared.items.Item.{Item}
use Rattle.us_build.specs.declared.levels.Level.{Level}
use Rattle.us_build.specs.Items.{row_at, rows_at, rows_first}
use Rattle.us_build.specs.Levels.{AreValues, HaveCoordinates, LiesInLevels, item_over, items_over, levels_over, offsets}
use Rattle.us_build.specs.Pieces.{AreRowsOf, IsBuildable, IsPartOf, piece_size}
use Rattle.us_build.specs.Ranges.{ranges_in}
use Rattle.us_build.specs.Ready.{AreReady, size_from}
use Rattle.us_build.specs.Sizes.{plain_levels}
use Rattle.us_build.proofs.Counts.{Mem-at}
use Rattle.us_build.proofs.Extents.{HasNearEnds, countable-each, extent-few, variable-near}
use Rattle.us_build.proofs.Offsets.{length-levels}
use Rattle.us_build.proofs.Parts.{levels-same, lies-in_levels, offsets-are, rest-is, rows-same}
use Rattle.us_build.proofs.Readiness.{are-ready, placed-shuffled, slots-shuffled}
use Rattle.us_build.proofs.Sorted.{AreApart, sorted-ascends}
use Rattle.us_build.proofs.Sorting.{before}

module _ (exprs : List Expr) (kinds : List Kind) (qs : List QueryCode) (t : Variables) (shape : code.Shape) (ts : List Triple) (b : IsBuildable exprs kinds qs t shape ts) where
  abbrev pub s : Shape
  s = plain_shape shape

  abbrev pub m : List Entry
  m = plain_entries ts

  abbrev pub trees : List Tree
  trees = map tree exprs

  abbrev pub queries : List Query
  queries = map query_of qs

  -- the part, as far as it is given
  abbrev pub given : Part → Part
  given p = record { names = t.names; queries = queries; levels = trees; trim = p.trim; merge = p.merge; packs = p.packs }

  -- the values of the variables at an entry
  abbrev pub vars_at : Entry → List ℤ
  vars_at x = map (λ v. variable_at m s queries v x) (range_with_len 0 t.names)

  abbrev pub ranges : List Range
  ranges = map (variable_range s (map (extent_of m s) queries) queries) (range_with_len 0 t.names)

  abbrev pub made : List Level
  made = levels_over shape.rows shape.cols ranges trees kinds

  abbrev pub items : List Item
  items = items_over trees made vars_at ts

  abbrev pub first : ℕ
  first = 6 - length trees

  pub trees-long : length trees ≡ length exprs
  trees-long = length-map exprs tree

  pub kinds-long : length kinds ≡ length exprs
  kinds-long =
      let p = b.lawful.0 in let q = b.lawful.1 in
      ap length q.kinds ∙ length-map-range_with_len (plain.kind p) 0 (length p.levels) ∙ ap length q.levels ∙ trees-long

  pub made-long : length made ≡ length trees
  made-long = length-levels shape.rows shape.cols ranges trees kinds (kinds-long ∙ sym trees-long)

  pub ranges-are : ranges_in s qs t ≡ ranges
  ranges-are = ap (λ (ns : List ℕ). map (variable_range s ns queries) (range_with_len 0 t.names)) b.variables.extents

  pub levels-long : (ls : List Level) → ls ≡ levels_over shape.rows shape.cols (ranges_in s qs t) trees kinds → length ls ≡ length exprs
  levels-long ls e = ap length e ∙ length-levels shape.rows shape.cols (ranges_in s qs t) trees kinds (kinds-long ∙ sym trees-long) ∙ trees-long

  module _ (p : Part) (q : IsPartOf p exprs kinds qs t) where
    pub part-is : p ≡ given p
    part-is =
        ap (λ (n : ℕ). part n p.queries p.levels) q.names
        ∙ ap₂ (λ (xs : List Query) (es : List Tree). part t.names xs es) q.queries q.levels
      where
        part : ℕ → List Query → List Tree → Part
        part n xs es = record { names = n; queries = xs; levels = es; trim = p.trim; merge = p.merge; packs = p.packs }

    pub kinds-are : kinds ≡ map (plain.kind (given p)) (range_with_len 0 (length trees))
    kinds-are = subst (λ (z : Part). kinds ≡ map (plain.kind z) (range_with_len 0 (length z.levels))) part-is q.kinds

    pub levels-are : plain_levels made ≡ plain.levels_of s (extents_of m s p) p
    levels-are =
        subst (λ (z : Part). plain_levels made ≡ plain.levels_of s (extents_of m s z) z) (sym part-is)
        (ap (λ (ks : List Kind). plain_levels (levels_over shape.rows shape.cols ranges trees ks)) kinds-are ∙ levels-same s (map (extent_of m s) queries) (given p) 0 trees)

    pub rows-are : rows_at first items ≡ rows_of m s p
    rows-are = subst (λ (z : Part). rows_at first items ≡ rows_of m s z) (sym part-is) (rows-same m s (given p) ts kinds (kinds-long ∙ sym trees-long))

    pub coordinates-are : (x : Triple) → drop first (item_over trees made (vars_at (plain_entry x)) x).coordinates ≡ coordinates m s p (plain_entry x)
    coordinates-are x =
        subst (λ (z : Part). drop first (item_over trees made (vars_at (plain_entry x)) x).coordinates ≡ coordinates m s z (plain_entry x)) (sym part-is)
        (rest-is trees made (vars_at (plain_entry x)) x ∙ offsets-are m s (given p) (plain_entry x) trees kinds (kinds-long ∙ sym trees-long))

  abbrev pub the_part : Part
  the_part = given b.lawful.0

  pub lawful-part : IsLawful the_part
  lawful-part = subst IsLawful (part-is b.lawful.0 b.lawful.1) b.lawful.2

  pub each-countable : (q : Query) → Mem q queries → IsCountable s q
  each-countable = countable-each s qs b.countable

  pub entries-few : length m ≤ limit
  entries-few = omega (arith, b.few, length-map ts plain_entry)

  -- ---- the items before they are sorted

  abbrev pub item_at : Triple → Item
  item_at x = item_over trees made (vars_at (plain_entry x)) x

  pub zeros : All (λ x. x.at ≡ 0) items
  zeros = All-map (λ (x : Item). x.at ≡ 0) item_at ts (λ k d l. refl)

  pub fronts : All (λ x. take first x.coordinates ≡ replicate first 0) items
  fronts =
      All-map (λ (x : Item). take first x.coordinates ≡ replicate first 0) item_at ts
      (λ k d l. take_at (replicate first 0) (offsets (pos (get_or ts k d).i) (pos (get_or ts k d).j) (vars_at (plain_entry (get_or ts k d))) trees made) first (length-replicate first 0))

  pub entry-there : (k : ℕ) (d : Triple) → k < length ts → Mem (plain_entry (get_or ts k d)) m
  entry-there k d l =
      subst (λ (z : Entry). Mem z m) (get_or-map plain_entry ts k d (plain_entry d) l) (Mem-at m k (plain_entry d) (omega (arith, l, length-map ts plain_entry)))

  pub items-apart : AreApart items
  items-apart i j d l k e =
      let p = b.lawful.0 in
      let z : Triple = record { i = 0; j = 0; v = pos 0 } in
      let n : j < length ts = omega (arith, k, length-map ts item_at) in
      let f : get_or items i d ≡ item_at (get_or ts i z) = get_or-map item_at ts i z d (omega arith) in
      let g : get_or items j d ≡ item_at (get_or ts j z) = get_or-map item_at ts j z d n in
      let x : Entry = plain_entry (get_or ts i z) in
      let y : Entry = plain_entry (get_or ts j z) in
      let same : coordinates m s p x ≡ coordinates m s p y =
      sym (coordinates-are p b.lawful.1 (get_or ts i z)) ∙ ap (λ (w : Item). drop first w.coordinates) (sym f) ∙ ap (drop first) e ∙ ap (λ (w : Item). drop first w.coordinates) g ∙ coordinates-are p b.lawful.1 (get_or ts j z) in
      let mx : Mem x m = entry-there i z (omega arith) in
      let my : Mem y m = entry-there j z n in
      let one : x ≡ y = positions-ascend.apart s p m b.lawful.2 b.matrix x y (Mem-contains m x mx) (Mem-contains m y my) same in
      let up : earlier x y ≡ true =
      ap₂ earlier (sym (get_or-map plain_entry ts i z (plain_entry z) (omega arith))) (sym (get_or-map plain_entry ts j z (plain_entry z) n))
      ∙ b.matrix.sorted i j (plain_entry z) l (omega (arith, n, length-map ts plain_entry)) in
      false≢true (sym (earlier-self y) ∙ ap (λ (w : Entry). earlier w y) (sym one) ∙ up)

  pub items-placed : Placed (plain_levels made) 1 (rows_at first items)
  items-placed =
      let p = b.lawful.0 in
      subst (λ (ls : List plain.Level). Placed ls 1 (rows_at first items)) (sym (levels-are p b.lawful.1))
      (subst (λ (rows : List Row). Placed (plain.levels_of s (extents_of m s p) p) 1 rows) (sym (rows-are p b.lawful.1)) (lawful-placed s p m b.lawful.2 b.matrix))

  pub items-slots : SlotsTell (plain_levels made) (rows_at first items)
  items-slots =
      let p = b.lawful.0 in
      subst (λ (ls : List plain.Level). SlotsTell ls (rows_at first items)) (sym (levels-are p b.lawful.1))
      (subst (λ (rows : List Row). SlotsTell (plain.levels_of s (extents_of m s p) p) rows) (sym (rows-are p b.lawful.1)) (lawful-slots s p m b.lawful.2 b.matrix))

  -- ---- sorted items

  module _ (ys : List Item) (h : IsPermutation items ys) (up : IsSortedBy before ys) where
    pub rows-shuffled : IsPermutation (rows_at first items) (rows_at first ys)
    rows-shuffled = IsPermutation-map (row_at first) items ys h

    pub rows-ready : AreReady (plain_levels made) 1 (rows_at first ys)
    rows-ready =
        are-ready (plain_levels made) 1 (rows_at first ys) (placed-shuffled (plain_levels made) 1 (rows_at first items) (rows_at first ys) rows-shuffled items-placed)
        (slots-shuffled (plain_levels made) (rows_at first items) (rows_at first ys) rows-shuffled items-slots)
        (sorted-ascends first (replicate first 0) items ys zeros fronts items-apart h up)

    pub unmoved : rows_at first ys ≡ rows_first first ys
    unmoved = go ys (All-permutation (λ (x : Item). x.at ≡ 0) items ys h zeros)
      where
        go : (zs : List Item) → All (λ x. x.at ≡ 0) zs → rows_at first zs ≡ rows_first first zs
        go [] a = refl
        go (z ∷ zs) a =
            ap₂ (λ (n : ℕ) (rs : List Row). record { at = n; rest = drop first z.coordinates; value = z.value } ∷ rs) (All-head (λ (x : Item). x.at ≡ 0) z zs a) (go zs (All-tail (λ (x : Item). x.at ≡ 0) z zs a))

    pub buffers-are : (p : Part) → IsPartOf p exprs kinds qs t → level_buffers (plain_levels made) 1 (rows_at first ys) ≡ piece_buffers s p m
    buffers-are p q =
        shuffled-level_buffers (plain_levels made) 1 (rows_at first items) (rows_at first ys) rows-shuffled items-placed items-slots
        ∙ ap₂ (λ (ls : List plain.Level) (rows : List Row). level_buffers ls 1 rows) (levels-are p q) (rows-are p q)

    pub size-is : (p : Part) → IsPartOf p exprs kinds qs t → size_from (plain_levels made) 1 (rows_at first ys) ≡ piece_size s p m
    size-is p q =
        ap₂ (λ (bs : List Buffer) (ns : List ℕ). sum_by (λ b. b.len) bs + sum ns) (buffers-are p q)
        (shuffled-counts (plain_levels made) 1 (rows_at first items) (rows_at first ys) rows-shuffled
        ∙ ap₂ (λ (ls : List plain.Level) (rows : List Row). counts ls 1 rows) (levels-are p q) (rows-are p q))

  -- ---- the variables at the entries

  pub values-are : AreValues vars_at t ts
  values-are k d l =
      same (λ (v : ℕ). value_in t v k) (λ (v : ℕ). variable_at m s queries v (plain_entry (get_or ts k d))) (range_with_len 0 t.names)
      (λ v. b.variables.values v k (plain_entry d) (omega (arith, l, length-map ts plain_entry)) ∙ ap (variable_at m s queries v) (get_or-map plain_entry ts k d (plain_entry d) l))
    where
      same : (f g : ℕ → ℤ) (xs : List ℕ) → ((v : ℕ) → f v ≡ g v) → map f xs ≡ map g xs
      same f g [] h = refl
      same f g (x ∷ xs) h = ap₂ (λ (z : ℤ) (zs : List ℤ). z ∷ zs) (h x) (same f g xs h)

  pub are-rows : (ls : List Level) (ys : List Item) → ls ≡ levels_over shape.rows shape.cols (ranges_in s qs t) trees kinds → All (λ l. l.size < 2 ^ 38) ls
      → ((f : Entry → List ℤ) → AreValues f t ts → IsPermutation (items_over trees ls f ts) ys) → IsSortedBy before ys → AreRowsOf exprs kinds qs t shape ts ls ys
  are-rows ls ys is sizes h up =
      let e : ls ≡ made = is ∙ ap (λ (rs : List Range). levels_over shape.rows shape.cols rs trees kinds) ranges-are in
      let g : IsPermutation items ys = subst (λ (z : List Level). IsPermutation (items_over trees z vars_at ts) ys) e (h vars_at values-are) in
      let n : length ls ≡ length trees = ap length e ∙ made-long in
      let i : first ≡ 6 - length ls = ap (λ (k : ℕ). 6 - k) (sym n) in
      record {
        made_are = is;
        count = omega (arith, n, trees-long, b.count);
        sizes = sizes;
        few = omega (arith, length_permutation items ys g, length-map ts item_at, b.few);
        ready = subst (λ (z : List Level). AreReady (plain_levels z) 1 (rows_at (6 - length ls) ys)) (sym e) (subst (λ (k : ℕ). AreReady (plain_levels made) 1 (rows_at k ys)) i (rows-ready ys g up));
        unmoved = subst (λ (k : ℕ). rows_at k ys ≡ rows_first k ys) i (unmoved ys g up);
        levels = λ p q. ap plain_levels e ∙ levels-are p q;
        size = λ p q. ap₂ (λ (z : List Level) (k : ℕ). size_from (plain_levels z) 1 (rows_at k ys)) e (sym i) ∙ size-is ys g up p q;
        buffers = λ p q. ap₂ (λ (z : List Level) (k : ℕ). level_buffers (plain_levels z) 1 (rows_at k ys)) e (sym i) ∙ buffers-are ys g up p q;
      }

  -- ---- the ranges of the variables

  pub ranges-long : length ranges ≡ t.names
  ranges-long = length-map-range_with_len (variable_range s (map (extent_of m s) queries) queries) 0 t.names

  pub extents-long : length t.extents.items ≡ length qs
  extents-long = ap length b.variables.extents ∙ length-map queries (extent_of m s) ∙ length-map qs query_of

  pub extents-small : All (λ n. n < 2 ^ 63) t.extents.items
  extents-small =
      subst (λ (ns : List ℕ). All (λ n. n < 2 ^ 63) ns) (sym b.variables.extents)
      (Mem-all (λ (n : ℕ). n < 2 ^ 63) (map (extent_of m s) queries) (λ n k.
      let q = Mem-of_map (extent_of m s) n queries k in
      omega (arith, q.2, extent-few m s entries-few q.0 (each-countable q.0 q.1))))

  near : (v : ℕ) → v < length ranges → HasNearEnds m s entries-few (range_at ranges v)
  near v l =
      subst (λ (r : Range). HasNearEnds m s entries-few r)
      (sym (get_or-map-range_with_len (variable_range s (map (extent_of m s) queries) queries) 0 t.names v v (record { lo = pos 0; hi = pos 0 }) (omega (arith, l, ranges-long)) (omega arith)))
      (variable-near m s entries-few queries v each-countable)

  within : (n : ℕ) → n ≡ t.names → All (λ e. IsWithin n (tree e)) exprs
  within n e k d l =
      subst (λ (c : ℕ). IsWithin c (tree (get_or exprs k d))) (sym e)
      (subst (IsWithin t.names) (get_or-map tree exprs k d (tree d) l) (lawful-part.levels_valid k (tree d) (omega (arith, l, trees-long))))

  pub rangeable : (rs : List Range) → rs ≡ ranges_in s qs t → All (λ e. IsRangeable rs (tree e)) exprs
  rangeable rs e =
      subst (λ (z : List Range). All (λ e. IsRangeable z (tree e)) exprs) (sym (e ∙ ranges-are))
      (λ k d l. record { small = b.small k d l; within = within (length ranges) ranges-long k d l; low = λ v h. (near v h).0; high = λ v h. (near v h).1 })

  -- ---- entries

  entry-row : (k : ℕ) (d : Triple) → k < length ts → (get_or ts k d).i < shape.rows
  entry-row k d l = all-Mem (λ (x : Entry). x.i < shape.rows) m (plain_entry (get_or ts k d)) b.matrix.rows (entry-there k d l)

  entry-col : (k : ℕ) (d : Triple) → k < length ts → (get_or ts k d).j < shape.cols
  entry-col k d l = all-Mem (λ (x : Entry). x.j < shape.cols) m (plain_entry (get_or ts k d)) b.matrix.cols (entry-there k d l)

  values-long : (k : ℕ) → length (values_in t k) ≡ t.names
  values-long k = length-map-range_with_len (λ v. value_in t v k) 0 t.names

  pub have-coordinates : (ls : List Level) → ls ≡ levels_over shape.rows shape.cols (ranges_in s qs t) trees kinds → HaveCoordinates exprs ls t ts
  have-coordinates ls is k d l =
      let x : Triple = get_or ts k d in
      let e : ls ≡ made = is ∙ ap (λ (rs : List Range). levels_over shape.rows shape.cols rs trees kinds) ranges-are in
      record {
        valid = λ j c h. record { small = b.small j c h; within = within (length (values_in t k)) (values-long k) j c h };
        point = record {
          row = (omega (arith, ints), omega (arith, ints, entry-row k d l, b.rows.high));
          col = (omega (arith, ints), omega (arith, ints, entry-col k d l, b.cols.high));
          each = λ v h.
              subst IsIndex (sym (get_or-map-range_with_len (λ v. value_in t v k) 0 t.names v v (pos 0) (omega (arith, h, values-long k)) (omega arith)))
              (b.variables.indices v k (omega (arith, l, length-map ts plain_entry)));
        };
        lies =
            subst (λ (z : List Level). LiesInLevels (pos x.i) (pos x.j) (values_in t k) trees z) (sym e)
            (subst (λ (vs : List ℤ). LiesInLevels (pos x.i) (pos x.j) vs trees made) (sym (values-are k d l))
            (lies-in_levels (pos x.i) (pos x.j) (vars_at (plain_entry x)) shape.rows shape.cols ranges trees kinds
            (λ a h. level-lies m s the_part (sound s the_part m lawful-part b.matrix) (plain_entry x) (entry-there k d l) a h)));
      }
