-- The sizes of the levels are those of the part, where the dims are its extents.
use Rattle.std.proofs.Common.{◌≡◌, ℕ, zero, suc, ◌+◌, List, [], ◌∷◌, map, length, Bool, true, false, cond, eqb, Option, Some, None, sym, refl, ap, ap₂, ◌∙◌, arith, inl, inr, filter}
use Rattle.std.specs.Prelude.{slice_get, slice_index_or}
use Rattle.us_expr.specs.declared.ranges.Range.{Range}
use Rattle.us_expr.specs.Tree.{Tree, RowIndex, ColIndex, Number, Variable, Sum, Difference, Quotient, Remainder}
use Rattle.us_expr.specs.Value.{IsWithin}
use Rattle.us_format.specs.Matrix.{Shape, Entry}
use Rattle.us_format.specs.Declaration.{Query, SumOf, Enumerate, Reorder, Schedule, Part, has_extent}
use Rattle.us_format.specs.Coordinates.{level_range, span}
use Rattle.us_format.specs.Kinds.{Level, kind}
use Rattle.us_format.specs.Kinds as format
use Rattle.us_format.specs.Queries.{extent_of, extents_of}
use Rattle.us_format.proofs.Order.{Mem}
use Rattle.us_format.proofs.Members.{all-Mem}
use Rattle.us_format_loops.specs.Laws.{levels_on}
use Rattle.us_code.specs.Run.{Env, size_of}
use Rattle.us_gen_places.specs.declared.start.PartStart.{PartStart}
use Rattle.us_gen_places.specs.Places.{by_query, counting_query, counted_by, range_without}
use Rattle.us_gen_places.specs.Places as places
use Rattle.us_gen_places.specs.Holds.{IsOrderly, IsWhole}
use Rattle.us_gen_places.proofs.SizesHold.{size-holds}
use Rattle.us_gen_building.specs.Runs.{levels_of}
use Rattle.us_gen_extents.specs.Extents.{AreDims}
use Rattle.us_gen_parts_build.specs.Parts.{extent_dim, bound_of, size_by, levels_from}

-- ---- the dim of a variable's extent is that extent

-- a number of a query and the dim of its extent
abbrev Agree : Env → (ℕ → ℕ) → Option ℕ → Option ℕ → Type 0
Agree env at None None = Unit {0}
Agree env at (Some q) (Some d) = env.dims d ≡ at q
Agree env at None (Some d) = ⊥
Agree env at (Some q) None = ⊥

module _ (env : Env) (m : List Entry) (s : Shape) (at : ℕ → ℕ) where
  -- the extents of queries, numbered from k on
  abbrev AreAt : ℕ → List Query → Type 0
  AreAt k qs = (j : ℕ) (x : Query) → slice_get qs j ≡ Some x → at (k + j) ≡ extent_of m s x

  next : (k : ℕ) (x : Query) (qs : List Query) → AreAt k (x ∷ qs) → AreAt (suc k) qs
  next k x qs h j y e = ap at (omega arith) ∙ h (suc j) y e

  own : (k d : ℕ) (x : Query) (qs : List Query) → AreAt k (x ∷ qs) → env.dims d ≡ extent_of m s x → env.dims d ≡ at k
  own k d x qs h e = e ∙ sym (ap at (omega arith) ∙ h 0 x refl)

  agree : (qs : List Query) (d k v : ℕ) → AreAt k qs → AreDims env d (map (extent_of m s) (filter has_extent qs)) → Agree env at (counting_query k qs v) (extent_dim d qs v)
  agree [] d k v h e = tt
  agree (SumOf w t ∷ qs) d k v h e = agree qs d (suc k) v (next k (SumOf w t) qs h) e
  agree (Enumerate w t ∷ qs) d k v h e =
      go (eqb w v) (own k d (Enumerate w t) qs h e.0) (agree qs (d + 1) (suc k) v (next k (Enumerate w t) qs h) e.1)
    where
      go : (c : Bool) → env.dims d ≡ at k → Agree env at (counting_query (suc k) qs v) (extent_dim (d + 1) qs v)
          → Agree env at (cond c (Some k) (counting_query (suc k) qs v)) (cond c (Some d) (extent_dim (d + 1) qs v))
      go true o ih = o
      go false o ih = ih
  agree (Reorder w t ∷ qs) d k v h e = go (eqb w v) (agree qs d (suc k) v (next k (Reorder w t) qs h) e)
    where
      go : (c : Bool) → Agree env at (counting_query (suc k) qs v) (extent_dim d qs v)
          → Agree env at (cond c None (counting_query (suc k) qs v)) (cond c None (extent_dim d qs v))
      go true ih = tt
      go false ih = ih
  agree (Schedule l u t lanes ∷ qs) d k v h e =
      go (eqb l v) (eqb u v) (own k d (Schedule l u t lanes) qs h e.0) (agree qs (d + 1) (suc k) v (next k (Schedule l u t lanes) qs h) e.1)
    where
      go : (b c : Bool) → env.dims d ≡ at k → Agree env at (counting_query (suc k) qs v) (extent_dim (d + 1) qs v)
          → Agree env at (cond b None (cond c (Some k) (counting_query (suc k) qs v))) (cond b None (cond c (Some d) (extent_dim (d + 1) qs v)))
      go true c o ih = tt
      go false true o ih = o
      go false false o ih = ih

-- ---- a level's size

module _ (env : Env) (s : Shape) (p : Part) (m : List Entry) (d : ℕ) (are : AreDims env d (map (extent_of m s) (filter has_extent p.queries))) where
  -- the extents by the numbers of their queries
  abbrev by_number : ℕ → ℕ
  by_number q = slice_index_or (extents_of m s p) q 0

  abbrev numbered : Env
  numbered = record { sources = env.sources; dims = by_number; factors = env.factors }

  abbrev start : PartStart
  start = record { source = 0; dim = 0 }

  at-number : (qs : List Query) (j : ℕ) (x : Query) → slice_get qs j ≡ Some x → slice_index_or (map (extent_of m s) qs) j 0 ≡ extent_of m s x
  at-number [] j x h = absurd cc
  at-number (q ∷ qs) zero x h = let e : q ≡ x = cc in ap (extent_of m s) e
  at-number (q ∷ qs) (suc j) x h = at-number qs j x h

  is-at : (j : ℕ) (x : Query) → slice_get p.queries j ≡ Some x → by_number (0 + j) ≡ extent_of m s x
  is-at j x h = ap (λ i. slice_index_or (extents_of m s p) i 0) (omega arith) ∙ at-number p.queries j x h

  same : (o b : Option ℕ) (r : Range) → Agree env by_number o b → size_of env (size_by b r) ≡ size_of numbered (places.size_by start o r)
  same None None r h = refl
  same (Some q) (Some x) r h = h ∙ ap by_number (omega arith)
  same None (Some x) r h = absurd h
  same (Some q) None r h = absurd h

  bound-size : (e : Tree) → size_of env (size_by (bound_of d p.queries e) (range_without s p e)) ≡ size_of numbered (places.size_by start (counted_by p.queries e) (range_without s p e))
  bound-size (Variable v) = same (counting_query 0 p.queries v) (extent_dim d p.queries v) (range_without s p (Variable v)) (agree env m s by_number p.queries d 0 v is-at are)
  bound-size RowIndex = refl
  bound-size ColIndex = refl
  bound-size (Number c) = refl
  bound-size (Sum a b) = refl
  bound-size (Difference a b) = refl
  bound-size (Quotient a k) = refl
  bound-size (Remainder a k) = refl

  module _ (orderly : IsOrderly p) where
    size-is : (e : Tree) → Mem e p.levels → size_of env (size_by (bound_of d p.queries e) (range_without s p e)) ≡ span (level_range s (extents_of m s p) p e)
    size-is e me =
        bound-size e
        ∙ size-holds s p m orderly.few numbered start (λ q x h _. is-at q x h) e (all-Mem (IsWhole p.queries) p.levels e orderly.whole me)
        (all-Mem (IsWithin p.names) p.levels e orderly.lawful.levels_valid me)

    levels-are : (k : ℕ) (es : List Tree) (cs : List ℕ) → length cs ≡ length es → ((e : Tree) → Mem e es → Mem e p.levels)
        → levels_of env (levels_from s p d k es cs) ≡ format.levels_from s (extents_of m s p) p k es
    levels-are k [] cs n among = refl
    levels-are k (e ∷ es) [] n among = absurd (omega (arith, n))
    levels-are k (e ∷ es) (c ∷ cs) n among =
        ap₂ (λ (w : ℕ) (ls : List Level). record { kind = kind p k; size = w } ∷ ls) (size-is e (among e (inl refl)))
        (levels-are (suc k) es cs (omega (arith, n)) (λ x i. among x (inr i)))

    -- the levels of the loops are those of the part
    pub part-levels : (cs : List ℕ) → length cs ≡ length p.levels → levels_of env (levels_from s p d 0 p.levels cs) ≡ levels_on s p m
    part-levels cs n = levels-are 0 p.levels cs n (λ e i. i)
