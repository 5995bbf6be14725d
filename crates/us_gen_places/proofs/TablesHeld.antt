-- The places of tables hold the tables that aren't empty, and the extents.
use Rattle.std.proofs.Common.{◌≡◌, ℕ, zero, suc, ◌+◌, ◌<◌, ◌≤◌, List, [], ◌∷◌, map, length, cond, ℤ, Some, refl, ap, ◌∙◌, arith, IsTrue, filter}
use Rattle.std.specs.Prelude.{slice_get}
use Rattle.us_format.specs.Lists.{nth}
use Rattle.us_format.specs.Matrix.{Shape, Entry}
use Rattle.us_format.specs.Declaration.{Query, SumOf, Enumerate, Reorder, Schedule, has_extent, has_table}
use Rattle.us_format.specs.Queries.{extent_of}
use Rattle.us_format.specs.Reading.{tables_in}
use Rattle.us_code.specs.Run.{Env}
use Rattle.us_gen_walk.specs.Runs.{HasTables}
use Rattle.us_gen_places.specs.declared.start.PartStart.{PartStart}
use Rattle.us_gen_places.specs.Places.{tables_from}

pub tables-number : (a : PartStart) (t q : ℕ) (qs : List Query) → length (tables_from a t q qs) ≡ length qs
tables-number a t q [] = refl
tables-number a t q (x ∷ qs) = ap suc (tables-number a (cond (has_table x) (suc t) t) (suc q) qs)

module _ (env : Env) (a : PartStart) (m : List Entry) (s : Shape) (bufs : List (List ℤ)) (top : ℕ) (sources : (j : ℕ) → j < top → env.sources (a.source + j) ≡ nth bufs j) where
  -- the extents of the queries, numbered from q on, are dims
  abbrev AreExtents : ℕ → List Query → Type 0
  AreExtents q qs = (i : ℕ) (x : Query) → slice_get qs i ≡ Some x → IsTrue (has_extent x) → env.dims (a.dim + (q + i)) ≡ extent_of m s x

  next : (q : ℕ) (x : Query) (qs : List Query) → AreExtents q (x ∷ qs) → AreExtents (suc q) qs
  next q x qs h i y at e = ap (λ n. env.dims (a.dim + n)) (omega arith) ∙ h (suc i) y at e

  first : (q : ℕ) (x : Query) (qs : List Query) → AreExtents q (x ∷ qs) → IsTrue (has_extent x) → env.dims (a.dim + q) ≡ extent_of m s x
  first q x qs h e = ap (λ n. env.dims (a.dim + n)) (omega arith) ∙ h 0 x refl e

  pub tables-held : (t q : ℕ) (qs : List Query) → t + length (filter has_table qs) ≤ top → AreExtents q qs → HasTables env (tables_from a t q qs) (map (extent_of m s) qs) (tables_in t bufs qs)
  tables-held t q [] l h i b = absurd (omega (arith, b))
  tables-held t q (SumOf v e ∷ qs) l h zero b = ((λ ne. absurd (ne refl)), refl)
  tables-held t q (SumOf v e ∷ qs) l h (suc i) b = tables-held t (suc q) qs l (next q (SumOf v e) qs h) i (omega (arith, b))
  tables-held t q (Enumerate v e ∷ qs) l h zero b = ((λ ne. absurd (ne refl)), first q (Enumerate v e) qs h refl)
  tables-held t q (Enumerate v e ∷ qs) l h (suc i) b = tables-held t (suc q) qs l (next q (Enumerate v e) qs h) i (omega (arith, b))
  tables-held t q (Reorder v e ∷ qs) l h zero b = ((λ ne. sources t (omega (arith, l))), refl)
  tables-held t q (Reorder v e ∷ qs) l h (suc i) b = tables-held (suc t) (suc q) qs (omega (arith, l)) (next q (Reorder v e) qs h) i (omega (arith, b))
  tables-held t q (Schedule u v e n ∷ qs) l h zero b = ((λ ne. sources t (omega (arith, l))), first q (Schedule u v e n) qs h refl)
  tables-held t q (Schedule u v e n ∷ qs) l h (suc i) b = tables-held (suc t) (suc q) qs (omega (arith, l)) (next q (Schedule u v e n) qs h) i (omega (arith, b))
