-- The dim of a level's size is its size, and the range where no query has an extent has its low end.
use Rattle.std.proofs.Common.{◌≡◌, ℕ, suc, ◌+◌, ◌<◌, List, [], ◌∷◌, map, length, Bool, true, false, cond, eqb, ◌||◌, pos, ◌+ℤ◌, ◌-ℤ◌, Option, Some, None, sym, refl, ap, ap₂, ◌∙◌, arith, IsTrue, inl, inr, ◌⊎◌, eq-eqb, zero-add, ◌≤◌}
use Rattle.std.specs.Prelude.{slice_get, replicate}
use Rattle.std.specs.Int.{int_div_euclid}
use Rattle.std.proofs.lemmas.List.{length-map}
use Rattle.std.proofs.lemmas.List.FromFn.{get_or-map-range_with_len}
use Rattle.std.proofs.lemmas.Int.{ints}
use Rattle.std.proofs.lemmas.Bool.{or_cases}
use Rattle.std.proofs.lemmas.Bool.Decides.{nat_tests}
use Rattle.us_expr.specs.declared.ranges.Range.{Range}
use Rattle.us_expr.specs.Tree.{Tree, RowIndex, ColIndex, Number, Variable, Sum, Difference, Quotient, Remainder, uses}
use Rattle.us_expr.specs.Value.{IsWithin}
use Rattle.us_expr.specs.Range.{range, range_at, index_range, range_of_remainder}
use Rattle.us_format.specs.Lists.{nat_of}
use Rattle.us_format.specs.Matrix.{Shape, Entry, indices}
use Rattle.us_format.specs.Declaration.{Query, SumOf, Enumerate, Reorder, Schedule, Part, axis_of, has_extent}
use Rattle.us_format.specs.Coordinates.{variable_range, variable_ranges, level_range, span}
use Rattle.us_format.specs.Queries.{extent_of, extents_of}
use Rattle.us_code.specs.Run.{Env, size_of}
use Rattle.us_gen_places.specs.declared.start.PartStart.{PartStart}
use Rattle.us_gen_places.specs.Places.{extent_name, counting_query, counted_by, range_without, size_by}
use Rattle.us_gen_places.specs.Holds.{IsWhole}

-- ---- ranges of expressions

true_or : (a b : Bool) → a ≡ true → (a || b) ≡ true
true_or true b h = refl
true_or false b h = absurd cc

or_true : (a b : Bool) → b ≡ true → (a || b) ≡ true
or_true true b h = refl
or_true false b h = h

abbrev sum_range : Range → Range → Range
sum_range x y = record { lo = x.lo +ℤ y.lo; hi = x.hi +ℤ y.hi }

abbrev difference_range : Range → Range → Range
difference_range x y = record { lo = x.lo -ℤ y.hi; hi = x.hi -ℤ y.lo }

abbrev quotient_range : ℕ → Range → Range
quotient_range k x = record { lo = int_div_euclid x.lo (pos k); hi = int_div_euclid x.hi (pos k) }

-- the range of an expression is that of its variables
pub range-same : (m n : ℕ) (rs qs : List Range) (e : Tree) → ((v : ℕ) → uses e v ≡ true → range_at rs v ≡ range_at qs v) → range m n rs e ≡ range m n qs e
range-same m n rs qs RowIndex h = refl
range-same m n rs qs ColIndex h = refl
range-same m n rs qs (Number c) h = refl
range-same m n rs qs (Variable v) h = h v (eqb-same v)
  where
    eqb-same : (v : ℕ) → eqb v v ≡ true
    eqb-same v = eq-eqb v v refl
range-same m n rs qs (Sum a b) h =
    ap₂ (λ (x y : Range). sum_range x y) (range-same m n rs qs a (λ v u. h v (true_or (uses a v) (uses b v) u))) (range-same m n rs qs b (λ v u. h v (or_true (uses a v) (uses b v) u)))
range-same m n rs qs (Difference a b) h =
    ap₂ (λ (x y : Range). difference_range x y) (range-same m n rs qs a (λ v u. h v (true_or (uses a v) (uses b v) u))) (range-same m n rs qs b (λ v u. h v (or_true (uses a v) (uses b v) u)))
range-same m n rs qs (Quotient a k) h =
    ap (λ (x : Range). quotient_range k x) (range-same m n rs qs a h)
range-same m n rs qs (Remainder a k) h = ap (λ (x : Range). range_of_remainder x k) (range-same m n rs qs a h)

-- a variable of a valid expression is below the number of variables
used_below : (n : ℕ) (e : Tree) (v : ℕ) → IsWithin n e → uses e v ≡ true → v < n
used_below n RowIndex v w u = absurd cc
used_below n ColIndex v w u = absurd cc
used_below n (Number c) v w u = absurd cc
used_below n (Variable x) v w u = let e : x ≡ v = grind (arith, nat_tests) in omega (arith, e, w)
used_below n (Sum a b) v w u = go (or_cases (uses a v) (uses b v) u) (used_below n a v w.0) (used_below n b v w.1)
  where
    go : ((uses a v ≡ true) ⊎ (uses b v ≡ true)) → (uses a v ≡ true → v < n) → (uses b v ≡ true → v < n) → v < n
    go (inl x) f g = f x
    go (inr y) f g = g y
used_below n (Difference a b) v w u = go (or_cases (uses a v) (uses b v) u) (used_below n a v w.0) (used_below n b v w.1)
  where
    go : ((uses a v ≡ true) ⊎ (uses b v ≡ true)) → (uses a v ≡ true → v < n) → (uses b v ≡ true → v < n) → v < n
    go (inl x) f g = f x
    go (inr y) f g = g y
used_below n (Quotient a k) v w u = used_below n a v w.2 u
used_below n (Remainder a k) v w u = used_below n a v w.2 u

-- how many numbers are below n
span_index : (n : ℕ) → span (index_range n) ≡ n
span_index n = ap nat_of (all_below n)
  where
    all_below : (n : ℕ) → ((pos n -ℤ pos 1) +ℤ pos 1) -ℤ pos 0 ≡ pos n
    all_below n = omega (arith, ints)

-- ---- ranges of variables

-- every range of a variable begins with 0
low-zero : (s : Shape) (ns : List ℕ) (qs : List Query) (v : ℕ) → (variable_range s ns qs v).lo ≡ pos 0
low-zero s ns [] v = refl
low-zero s [] (q ∷ qs) v = refl
low-zero s (n ∷ ns) (SumOf w e ∷ qs) v = low-zero s ns qs v
low-zero s (n ∷ ns) (Enumerate w e ∷ qs) v = go (eqb w v) (low-zero s ns qs v)
  where
    go : (b : Bool) → (variable_range s ns qs v).lo ≡ pos 0 → (cond b (index_range n) (variable_range s ns qs v)).lo ≡ pos 0
    go true ih = refl
    go false ih = ih
low-zero s (n ∷ ns) (Reorder w t ∷ qs) v = go (eqb w v) (low-zero s ns qs v)
  where
    go : (b : Bool) → (variable_range s ns qs v).lo ≡ pos 0 → (cond b (index_range (indices (axis_of t) s)) (variable_range s ns qs v)).lo ≡ pos 0
    go true ih = refl
    go false ih = ih
low-zero s (n ∷ ns) (Schedule l u t lanes ∷ qs) v = go (eqb l v) (eqb u v) (low-zero s ns qs v)
  where
    go : (b c : Bool) → (variable_range s ns qs v).lo ≡ pos 0 → (cond b (index_range lanes) (cond c (index_range n) (variable_range s ns qs v))).lo ≡ pos 0
    go true c ih = refl
    go false true ih = refl
    go false false ih = ih

-- a variable that no extent bounds has one range, whatever the extents
uncounted : (s : Shape) (ns ms : List ℕ) (qs : List Query) (k v : ℕ) → length ns ≡ length qs → length qs ≤ length ms → counting_query k qs v ≡ None
    → variable_range s ns qs v ≡ variable_range s ms qs v
uncounted s ns ms [] k v a b h = refl
uncounted s [] ms (q ∷ qs) k v a b h = absurd (omega (arith, a))
uncounted s (n ∷ ns) [] (q ∷ qs) k v a b h = absurd (omega (arith, b))
uncounted s (n ∷ ns) (m ∷ ms) (SumOf w e ∷ qs) k v a b h = uncounted s ns ms qs (suc k) v (omega (arith, a)) (omega (arith, b)) h
uncounted s (n ∷ ns) (m ∷ ms) (Enumerate w e ∷ qs) k v a b h =
    go (eqb w v) h (uncounted s ns ms qs (suc k) v (omega (arith, a)) (omega (arith, b)))
  where
    go : (c : Bool) → cond c (Some k) (counting_query (suc k) qs v) ≡ None → (counting_query (suc k) qs v ≡ None → variable_range s ns qs v ≡ variable_range s ms qs v)
        → cond c (index_range n) (variable_range s ns qs v) ≡ cond c (index_range m) (variable_range s ms qs v)
    go true h ih = absurd cc
    go false h ih = ih h
uncounted s (n ∷ ns) (m ∷ ms) (Reorder w t ∷ qs) k v a b h =
    go (eqb w v) h (uncounted s ns ms qs (suc k) v (omega (arith, a)) (omega (arith, b)))
  where
    go : (c : Bool) → cond c None (counting_query (suc k) qs v) ≡ None → (counting_query (suc k) qs v ≡ None → variable_range s ns qs v ≡ variable_range s ms qs v)
        → cond c (index_range (indices (axis_of t) s)) (variable_range s ns qs v) ≡ cond c (index_range (indices (axis_of t) s)) (variable_range s ms qs v)
    go true h ih = refl
    go false h ih = ih h
uncounted s (n ∷ ns) (m ∷ ms) (Schedule l u t lanes ∷ qs) k v a b h =
    go (eqb l v) (eqb u v) h (uncounted s ns ms qs (suc k) v (omega (arith, a)) (omega (arith, b)))
  where
    go : (c d : Bool) → cond c None (cond d (Some k) (counting_query (suc k) qs v)) ≡ None → (counting_query (suc k) qs v ≡ None → variable_range s ns qs v ≡ variable_range s ms qs v)
        → cond c (index_range lanes) (cond d (index_range n) (variable_range s ns qs v)) ≡ cond c (index_range lanes) (cond d (index_range m) (variable_range s ms qs v))
    go true d h ih = refl
    go false true h ih = absurd cc
    go false false h ih = ih h

-- a variable that an extent bounds: its query, and its range
pub record IsCounted (s : Shape) (m : List Entry) (qs : List Query) (k v q : ℕ) : Type 0 where
  pub place : ℕ
  pub query : Query
  pub is : q ≡ k + place
  pub there : slice_get qs place ≡ Some query
  pub counts : has_extent query ≡ true
  pub range_is : variable_range s (map (extent_of m s) qs) qs v ≡ index_range (extent_of m s query)

later : (s : Shape) (m : List Entry) (x : Query) (qs : List Query) (k v q : ℕ) → variable_range s (map (extent_of m s) (x ∷ qs)) (x ∷ qs) v ≡ variable_range s (map (extent_of m s) qs) qs v
    → IsCounted s m qs (suc k) v q → IsCounted s m (x ∷ qs) k v q
later s m x qs k v q e c = record { place = suc c.place; query = c.query; is = omega (arith, c.is); there = c.there; counts = c.counts; range_is = e ∙ c.range_is }

some_none : {a : ℕ} → Some a ≡ None → ⊥
some_none {a} h = absurd cc

some_same : {a b : ℕ} → Some a ≡ Some b → a ≡ b
some_same {a} {b} h = cc

pub counted : (s : Shape) (m : List Entry) (qs : List Query) (k v q : ℕ) → counting_query k qs v ≡ Some q → IsCounted s m qs k v q
counted s m [] k v q h = absurd cc
counted s m (SumOf w e ∷ qs) k v q h = later s m (SumOf w e) qs k v q refl (counted s m qs (suc k) v q h)
counted s m (Enumerate w e ∷ qs) k v q h = go (eqb w v) refl h (counted s m qs (suc k) v q)
  where
    go : (c : Bool) → eqb w v ≡ c → cond c (Some k) (counting_query (suc k) qs v) ≡ Some q → (counting_query (suc k) qs v ≡ Some q → IsCounted s m qs (suc k) v q) → IsCounted s m (Enumerate w e ∷ qs) k v q
    go true t h ih = record { place = 0; query = Enumerate w e; is = omega (arith, some_same h); there = refl; counts = refl; range_is = rw t refl }
    go false t h ih = later s m (Enumerate w e) qs k v q (rw t refl) (ih h)
counted s m (Reorder w e ∷ qs) k v q h = go (eqb w v) refl h (counted s m qs (suc k) v q)
  where
    go : (c : Bool) → eqb w v ≡ c → cond c None (counting_query (suc k) qs v) ≡ Some q → (counting_query (suc k) qs v ≡ Some q → IsCounted s m qs (suc k) v q) → IsCounted s m (Reorder w e ∷ qs) k v q
    go true t h ih = absurd cc
    go false t h ih = later s m (Reorder w e) qs k v q (rw t refl) (ih h)
counted s m (Schedule l u e lanes ∷ qs) k v q h = go (eqb l v) (eqb u v) refl refl h (counted s m qs (suc k) v q)
  where
    go : (c d : Bool) → eqb l v ≡ c → eqb u v ≡ d → cond c None (cond d (Some k) (counting_query (suc k) qs v)) ≡ Some q
        → (counting_query (suc k) qs v ≡ Some q → IsCounted s m qs (suc k) v q) → IsCounted s m (Schedule l u e lanes ∷ qs) k v q
    go true d t r h ih = absurd cc
    go false true t r h ih = record { place = 0; query = Schedule l u e lanes; is = omega (arith, some_same h); there = refl; counts = refl; range_is = rw (t, r) refl }
    go false false t r h ih = later s m (Schedule l u e lanes) qs k v q (rw (t, r) refl) (ih h)

-- ---- a level

module _ (s : Shape) (p : Part) (m : List Entry) (few : length p.queries ≤ 16) where
  abbrev ns : List ℕ
  ns = extents_of m s p

  abbrev none : List ℕ
  none = replicate 16 0

  at : (xs : List ℕ) (v : ℕ) → v < p.names → range_at (variable_ranges s xs p) v ≡ variable_range s xs p.queries v
  at xs v h = get_or-map-range_with_len (variable_range s xs p.queries) 0 p.names v v (record { lo = pos 0; hi = pos 0 }) h (omega arith)

  same_variable : (v : ℕ) → v < p.names → counting_query 0 p.queries v ≡ None → range_at (variable_ranges s none p) v ≡ range_at (variable_ranges s ns p) v
  same_variable v l h =
      at none v l ∙ sym (uncounted s ns none p.queries 0 v (length-map p.queries (extent_of m s)) (omega (arith, few)) h) ∙ sym (at ns v l)

  -- the variables of an expression that is no variable
  same_others : (e : Tree) → IsWhole p.queries e → IsWithin p.names e → ((v : ℕ) → e ≡ Variable v → ⊥) → range_without s p e ≡ level_range s ns p e
  same_others e whole within other =
      range-same s.rows s.cols (variable_ranges s none p) (variable_ranges s ns p) e
      (λ v u. same_variable v (used_below p.names e v within u) (go v u (counting_query 0 p.queries v) refl))
    where
      go : (v : ℕ) → uses e v ≡ true → (o : Option ℕ) → counting_query 0 p.queries v ≡ o → o ≡ None
      go v u None h = refl
      go v u (Some q) h = absurd (other v (whole v u (λ n. some_none (sym h ∙ n))))

  module _ (env : Env) (a : PartStart) (extents : (q : ℕ) (x : Query) → slice_get p.queries q ≡ Some x → IsTrue (has_extent x) → env.dims (extent_name a q) ≡ extent_of m s x) where
    by_number : (e : Tree) → range_without s p e ≡ level_range s ns p e → counted_by p.queries e ≡ None → size_of env (size_by a (counted_by p.queries e) (range_without s p e)) ≡ span (level_range s ns p e)
    by_number e h q = ap (λ (o : Option ℕ). size_of env (size_by a o (range_without s p e))) q ∙ ap span h

    variable_size : (v : ℕ) → v < p.names → (o : Option ℕ) → counting_query 0 p.queries v ≡ o → size_of env (size_by a o (range_without s p (Variable v))) ≡ span (level_range s ns p (Variable v))
    variable_size v l None h = ap span (same_variable v l h)
    variable_size v l (Some q) h =
        let c = counted s m p.queries 0 v q h in
        ap (λ n. env.dims (a.dim + n)) c.is ∙ ap (λ n. env.dims (a.dim + n)) (zero-add c.place) ∙ extents c.place c.query c.there c.counts
        ∙ sym (ap span (at ns v l ∙ c.range_is) ∙ span_index (extent_of m s c.query))

    pub size-holds : (e : Tree) → IsWhole p.queries e → IsWithin p.names e → size_of env (size_by a (counted_by p.queries e) (range_without s p e)) ≡ span (level_range s ns p e)
    size-holds (Variable v) whole within = variable_size v (used_below p.names (Variable v) v within (eq-eqb v v refl)) (counting_query 0 p.queries v) refl
    size-holds RowIndex whole within = by_number RowIndex refl refl
    size-holds ColIndex whole within = by_number ColIndex refl refl
    size-holds (Number c) whole within = by_number (Number c) refl refl
    size-holds (Sum x y) whole within = by_number (Sum x y) (same_others (Sum x y) whole within (λ v e. absurd cc)) refl
    size-holds (Difference x y) whole within = by_number (Difference x y) (same_others (Difference x y) whole within (λ v e. absurd cc)) refl
    size-holds (Quotient x k) whole within = by_number (Quotient x k) (same_others (Quotient x k) whole within (λ v e. absurd cc)) refl
    size-holds (Remainder x k) whole within = by_number (Remainder x k) (same_others (Remainder x k) whole within (λ v e. absurd cc)) refl

  -- its low end
  pub low-holds : (e : Tree) → IsWhole p.queries e → IsWithin p.names e → (range_without s p e).lo ≡ (level_range s (extents_of m s p) p e).lo
  low-holds (Variable v) whole within =
      let l = used_below p.names (Variable v) v within (eq-eqb v v refl) in
      ap (λ (r : Range). r.lo) (at none v l) ∙ low-zero s none p.queries v ∙ sym (ap (λ (r : Range). r.lo) (at ns v l) ∙ low-zero s ns p.queries v)
  low-holds RowIndex whole within = refl
  low-holds ColIndex whole within = refl
  low-holds (Number c) whole within = refl
  low-holds (Sum x y) whole within = ap (λ (r : Range). r.lo) (same_others (Sum x y) whole within (λ v e. absurd cc))
  low-holds (Difference x y) whole within = ap (λ (r : Range). r.lo) (same_others (Difference x y) whole within (λ v e. absurd cc))
  low-holds (Quotient x k) whole within = ap (λ (r : Range). r.lo) (same_others (Quotient x k) whole within (λ v e. absurd cc))
  low-holds (Remainder x k) whole within = ap (λ (r : Range). r.lo) (same_others (Remainder x k) whole within (λ v e. absurd cc))
