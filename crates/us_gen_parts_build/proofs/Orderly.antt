-- The levels of the loops are orderly, and name dims of extents alone.
use Rattle.std.proofs.Common.{◌≡◌, ℕ, suc, ◌+◌, ◌<◌, List, [], ◌∷◌, length, Bool, true, false, cond, not, ◌&&◌, ◌||◌, eqb, Option, Some, None, refl, ap, ◌∙◌, subst, arith, filter}
use Rattle.us_expr.specs.declared.ranges.Range.{Range}
use Rattle.us_expr.specs.Tree.{Tree, RowIndex, ColIndex, Number, Variable, Sum, Difference, Quotient, Remainder}
use Rattle.us_format.specs.declared.Kind.{Kind}
use Rattle.us_format.specs.declared.Kind.TheVariants.{Full, Compressed, Listed, Slot}
use Rattle.us_format.specs.Lists.{among}
use Rattle.us_format.specs.Matrix.{Shape}
use Rattle.us_format.specs.Declaration.{Query, SumOf, Enumerate, Reorder, Schedule, Part, has_extent}
use Rattle.us_format.specs.Kinds.{kind, is_loose, before_loose, tells}
use Rattle.us_format.specs.Kinds as format
use Rattle.us_format_loops.specs.Laws.{StaysLoose}
use Rattle.us_format_loops.specs.Nodes.{is_slot, are_slots}
use Rattle.us_format_loops.proofs.Split.{loose-rest}
use Rattle.us_code.specs.declared.program.Dim.TheVariants as dim
use Rattle.us_code.specs.Typing.{Context, sees_dim}
use Rattle.us_gen_places.specs.Places.{range_without}
use Rattle.us_gen_building.specs.Kinds.{SizesSeen}
use Rattle.us_gen_building.specs.Levels.{are_last, columns}
use Rattle.us_gen_building.specs.Runs.{FollowsWell, AreOrderly, IsBelow, AllBelow}
use Rattle.us_gen_parts_build.specs.Parts.{extent_dim, bound_of, size_by, levels_from}

-- ---- kinds

loose-kind : (t g b : Bool) → (cond t (cond g Compressed (cond b Slot Listed)) Full ≡ Slot) → (t && not g) ≡ true
loose-kind true true b h = absurd cc
loose-kind true false b h = refl
loose-kind false g b h = absurd cc

listed-kind : (t g b : Bool) → (cond t (cond g Compressed (cond b Slot Listed)) Full ≡ Listed) → (t && not g) ≡ true
listed-kind true true b h = absurd cc
listed-kind true false b h = refl
listed-kind false g b h = absurd cc

module _ (s : Shape) (p : Part) (d : ℕ) where
  pub last-same : (k : ℕ) (es : List Tree) (cs : List ℕ) → length cs ≡ length es → are_last (levels_from s p d k es cs) ≡ are_slots (format.levels_from s [] p k es)
  last-same k [] cs n = refl
  last-same k (e ∷ es) [] n = absurd (omega (arith, n))
  last-same k (e ∷ es) (c ∷ cs) n = ap (λ (b : Bool). is_slot (kind p k) && b) (last-same (suc k) es cs (omega (arith, n)))

  module _ (stays : StaysLoose p) where
    follows : (k : ℕ) (es : List Tree) (cs : List ℕ) → length cs ≡ length es → suc k + length es ≡ length p.levels → FollowsWell (kind p k) (are_last (levels_from s p d (suc k) es cs))
    follows k es cs n there = go (kind p k) refl
      where
        rest : is_loose p k ≡ true → are_last (levels_from s p d (suc k) es cs) ≡ true
        rest h = last-same (suc k) es cs n ∙ loose-rest s [] p stays k es there h

        go : (kd : Kind) → kind p k ≡ kd → FollowsWell kd (are_last (levels_from s p d (suc k) es cs))
        go Full h = tt
        go Compressed h = tt
        go Listed h = rest (listed-kind (among k p.trim) (among k p.merge) (before_loose p k || tells p k) h)
        go Slot h = rest (loose-kind (among k p.trim) (among k p.merge) (before_loose p k || tells p k) h)

    orderly-from : (k : ℕ) (es : List Tree) (cs : List ℕ) → length cs ≡ length es → k + length es ≡ length p.levels → AreOrderly (levels_from s p d k es cs)
    orderly-from k [] cs n there = tt
    orderly-from k (e ∷ es) [] n there = absurd (omega (arith, n))
    orderly-from k (e ∷ es) (c ∷ cs) n there =
        (follows k es cs (omega (arith, n)) (omega (arith, there)), orderly-from (suc k) es cs (omega (arith, n)) (omega (arith, there)))

    pub orderly-levels : (cs : List ℕ) → length cs ≡ length p.levels → AreOrderly (levels_from s p d 0 p.levels cs)
    orderly-levels cs n = orderly-from 0 p.levels cs n (omega arith)

  -- ---- columns and numbers

  columns-from : (k : ℕ) (es : List Tree) (cs : List ℕ) → length cs ≡ length es → columns (levels_from s p d k es cs) ≡ cs
  columns-from k [] [] n = refl
  columns-from k [] (c ∷ cs) n = absurd (omega (arith, n))
  columns-from k (e ∷ es) [] n = absurd (omega (arith, n))
  columns-from k (e ∷ es) (c ∷ cs) n = ap (λ (xs : List ℕ). c ∷ xs) (columns-from (suc k) es cs (omega (arith, n)))

  pub level-columns : (cs : List ℕ) → length cs ≡ length p.levels → columns (levels_from s p d 0 p.levels cs) ≡ cs
  level-columns cs n = columns-from 0 p.levels cs n

  many-from : (k : ℕ) (es : List Tree) (cs : List ℕ) → length cs ≡ length es → length (levels_from s p d k es cs) ≡ length es
  many-from k [] cs n = refl
  many-from k (e ∷ es) [] n = absurd (omega (arith, n))
  many-from k (e ∷ es) (c ∷ cs) n = ap suc (many-from (suc k) es cs (omega (arith, n)))

  pub many-levels : (cs : List ℕ) → length cs ≡ length p.levels → length (levels_from s p d 0 p.levels cs) ≡ length p.levels
  many-levels cs n = many-from 0 p.levels cs n

-- ---- the dims of extents

-- a fact on a dim, if there is one
abbrev OnDim : (ℕ → Type 0) → Option ℕ → Type 0
OnDim P None = Unit {0}
OnDim P (Some d) = P d

-- what holds of as many dims as there are extents
extent-on : (P : ℕ → Type 0) (qs : List Query) (d v : ℕ) → ((j : ℕ) → j < length (filter has_extent qs) → P (d + j)) → OnDim P (extent_dim d qs v)
extent-on P [] d v h = tt
extent-on P (SumOf w t ∷ qs) d v h = extent-on P qs d v h
extent-on P (Enumerate w t ∷ qs) d v h =
    go (eqb w v) (subst P (omega arith) (h 0 (omega arith))) (extent-on P qs (d + 1) v (λ j lt. subst P (omega arith) (h (suc j) (omega (arith, lt)))))
  where
    go : (c : Bool) → P d → OnDim P (extent_dim (d + 1) qs v) → OnDim P (cond c (Some d) (extent_dim (d + 1) qs v))
    go true o ih = o
    go false o ih = ih
extent-on P (Reorder w t ∷ qs) d v h = go (eqb w v) (extent-on P qs d v h)
  where
    go : (c : Bool) → OnDim P (extent_dim d qs v) → OnDim P (cond c None (extent_dim d qs v))
    go true ih = tt
    go false ih = ih
extent-on P (Schedule l u t lanes ∷ qs) d v h =
    go (eqb l v) (eqb u v) (subst P (omega arith) (h 0 (omega arith))) (extent-on P qs (d + 1) v (λ j lt. subst P (omega arith) (h (suc j) (omega (arith, lt)))))
  where
    go : (b c : Bool) → P d → OnDim P (extent_dim (d + 1) qs v) → OnDim P (cond b None (cond c (Some d) (extent_dim (d + 1) qs v)))
    go true c o ih = tt
    go false true o ih = o
    go false false o ih = ih

bound-on : (P : ℕ → Type 0) (qs : List Query) (d : ℕ) (e : Tree) → ((j : ℕ) → j < length (filter has_extent qs) → P (d + j)) → OnDim P (bound_of d qs e)
bound-on P qs d (Variable v) h = extent-on P qs d v h
bound-on P qs d RowIndex h = tt
bound-on P qs d ColIndex h = tt
bound-on P qs d (Number c) h = tt
bound-on P qs d (Sum a b) h = tt
bound-on P qs d (Difference a b) h = tt
bound-on P qs d (Quotient a k) h = tt
bound-on P qs d (Remainder a k) h = tt

module _ (s : Shape) (p : Part) (d : ℕ) where
  low-size : (f : ℕ) (o : Option ℕ) (r : Range) → OnDim (λ x. x < f) o → IsBelow f (size_by o r)
  low-size f None r h = tt
  low-size f (Some x) r h = h

  pub levels-below : (f k : ℕ) (es : List Tree) (cs : List ℕ) → ((j : ℕ) → j < length (filter has_extent p.queries) → d + j < f) → AllBelow f (levels_from s p d k es cs)
  levels-below f k [] cs h = tt
  levels-below f k (e ∷ es) [] h = tt
  levels-below f k (e ∷ es) (c ∷ cs) h =
      (low-size f (bound_of d p.queries e) (range_without s p e) (bound-on (λ x. x < f) p.queries d e h), levels-below f (suc k) es cs h)

  seen-size : (g : Context) (o : Option ℕ) (r : Range) → OnDim (λ x. sees_dim g (dim.Name x) ≡ true) o → sees_dim g (size_by o r) ≡ true
  seen-size g None r h = refl
  seen-size g (Some x) r h = h

  pub sizes-seen : (g : Context) (k : ℕ) (es : List Tree) (cs : List ℕ) → ((j : ℕ) → j < length (filter has_extent p.queries) → sees_dim g (dim.Name (d + j)) ≡ true)
      → SizesSeen g (levels_from s p d k es cs)
  sizes-seen g k [] cs h = tt
  sizes-seen g k (e ∷ es) [] h = tt
  sizes-seen g k (e ∷ es) (c ∷ cs) h =
      (seen-size g (bound_of d p.queries e) (range_without s p e) (bound-on (λ x. sees_dim g (dim.Name x) ≡ true) p.queries d e h), sizes-seen g (suc k) es cs h)
