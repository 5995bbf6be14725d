-- Where the size of a matrix is within the limit, so is each extent.
use Rattle.std.specs.List.{sum_by}
use Rattle.std.proofs.Common.{◌≡◌, ℕ, zero, suc, ◌*◌, ◌<◌, ◌≤◌, List, [], ◌∷◌, map, None, ap, subst, inl, inr, arith, All}
use Rattle.std.proofs.lemmas.List.Sums.{sum_by-cons}
use Rattle.us_format.specs.Buffers.{holds, parts_of, size}
use Rattle.us_format.specs.Declaration.{Declaration, Enumerate, Part, Query, Reorder, Schedule, SumOf, axis_of}
use Rattle.us_format.specs.Laws.{AreExtentsSmall, unpacked_size}
use Rattle.us_format.specs.Matrix.{Entry, IsMatrixOf, Shape}
use Rattle.us_format.specs.Queries.{extent_of, extents_of, schedule_extent}
use Rattle.us_format.specs.Reading.{limit}
use Rattle.us_format.specs.Rules.{HasLanes, IsLawful, IsLawfulDeclaration}
use Rattle.us_format.proofs.Members.{Mem-all, all-Mem}
use Rattle.us_format.proofs.Order.{Mem, Mem-map, Mem-of_map}
use Rattle.us_format.proofs.PackSizes.{packing-keeps-size}
use Rattle.us_format.proofs.Shares.{shares-matrix, shares-parts}
use Rattle.us_decl.specs.Declares.{Declared, IsValid}
use Rattle.us_judge.specs.Acceptance.{first_refusal}
use Rattle.us_judge.specs.Views.{declaration_of}
use Rattle.us_judge.proofs.LawfulDeclarations.{accepted-declaration}
use Rattle.us_build.proofs.Extents.{enumerate-few}
use Rattle.us_parts.specs.Cells.{queries_cells, query_cells}
use Rattle.us_parts.proofs.Counting.{cells-are}
use Rattle.us_levels.proofs.Entries.{entries-within}

times-one : (n e : ℕ) → 0 < n → e ≤ n * e
times-one zero e h = absurd (omega (arith, h))
times-one (suc n) e h = omega arith

cells-within : (s : Shape) (qs : List Query) (ns : Query → ℕ) (q : Query) → Mem q qs → query_cells s q (ns q) ≤ queries_cells s qs (map ns qs)
cells-within s [] ns q h = absurd h
cells-within s (x ∷ qs) ns q (inl e) = omega (arith, ap (λ (z : Query). query_cells s z (ns z)) e)
cells-within s (x ∷ qs) ns q (inr k) = omega (arith, cells-within s qs ns q k)

member-within : (f : Part × List Entry → ℕ) (ys : List (Part × List Entry)) (y : Part × List Entry) → Mem y ys → f y ≤ sum_by f ys
member-within f [] y h = absurd h
member-within f (x ∷ ys) y (inl e) = omega (arith, sum_by-cons f x ys, ap f e)
member-within f (x ∷ ys) y (inr k) = omega (arith, sum_by-cons f x ys, member-within f ys y k)

-- an extent is no greater than the size of its part
extent-within : (s : Shape) (p : Part) (m : List Entry) → IsLawful p → IsMatrixOf s m → (q : Query) → Mem q p.queries → extent_of m s q ≤ unpacked_size s p m
extent-within s p m la im q h = by-query q (all-Mem HasLanes p.queries q la.lanes h) (cells-within s p.queries (extent_of m s) q h)
  where
    by-query : (q : Query) → HasLanes q → query_cells s q (extent_of m s q) ≤ queries_cells s p.queries (map (extent_of m s) p.queries) → extent_of m s q ≤ unpacked_size s p m
    by-query (SumOf v e) l c = omega arith
    by-query (Enumerate v e) l c = omega (arith, enumerate-few m e, entries-within s p m la im)
    by-query (Reorder v t) l c = omega arith
    by-query (Schedule v u t n) l c = omega (arith, c, times-one n (schedule_extent m s (axis_of t) n) l, cells-are m s p.queries)

pub small-within : (s : Shape) (d : Declaration) (m : List Entry) → IsLawfulDeclaration d → IsMatrixOf s m → size s d m ≤ limit → AreExtentsSmall s d m
small-within s d m law im within =
    record { small = Mem-all (λ (y : Part × List Entry). All (λ n. n ≤ limit) (extents_of y.1 s y.0)) (parts_of s d m) (λ y h. Mem-all (λ (n : ℕ). n ≤ limit) (extents_of y.1 s y.0) (λ n k. one y h n k)) }
  where
    one : (y : Part × List Entry) → Mem y (parts_of s d m) → (n : ℕ) → Mem n (extents_of y.1 s y.0) → n ≤ limit
    one y h n k =
        let q = Mem-of_map (extent_of y.1 s) n y.0.queries k in
        let there : Mem y.0 d.parts = subst (λ (ps : List Part). Mem y.0 ps) (shares-parts (holds m s d) d.conds d.parts m law.one_more) (Mem-map (λ (z : Part × List Entry). z.0) y (parts_of s d m) h) in
        omega (
          arith,
          q.2,
          within,
          packing-keeps-size.of_parts s d m law,
          member-within (λ z. unpacked_size s z.0 z.1) (parts_of s d m) y h,
          extent-within s y.0 y.1 (all-Mem IsLawful d.parts y.0 law.parts there) (shares-matrix (holds m s d) s d.conds d.parts m im y h) q.0 q.1,
        )

pub accepted-small : (s : Shape) (x : Declared) (m : List Entry) → IsValid x → first_refusal (declaration_of x) ≡ None → IsMatrixOf s m → size s (declaration_of x) m ≤ limit → AreExtentsSmall s (declaration_of x) m
accepted-small s x m v e im within = small-within s (declaration_of x) m (accepted-declaration x v e) im within
