-- The sizes of the parts are the size of the declaration.
use Rattle.std.specs.List.{filter, sum_by}
use Rattle.std.proofs.Common.{◌≡◌, ℕ, suc, ◌+◌, ◌<◌, ◌≤◌, List, [], ◌∷◌, map, length, get_or, drop, not, min, Bool, true, false, cond, refl, sym, ap, ap₂, subst, ◌∙◌, inl, inr, arith, All}
use Rattle.std.proofs.lemmas.List.{drop_all, drop_more, length-map}
use Rattle.std.proofs.lemmas.List.Elements.{All-head, All-tail}
use Rattle.std.proofs.lemmas.List.Sums.{count_by-le-length, length-filter, sum_by-cons}
use Rattle.us_expr.specs.declared.queries.Cond.{Cond}
use Rattle.us_matrix.specs.Map.{Map}
use Rattle.us_format.specs.Buffers.{holds, parts_of, shares, size}
use Rattle.us_format.specs.Declaration.{Declaration, Part}
use Rattle.us_format.specs.Laws.{unpacked_size}
use Rattle.us_format.specs.Matrix.{Entry, IsMatrixOf, Shape}
use Rattle.us_format.specs.Program.{entries_in, plain_entry, shape_in}
use Rattle.us_format.specs.Reading.{limit}
use Rattle.us_format.specs.Rules.{IsLawful, IsLawfulDeclaration}
use Rattle.us_format.proofs.Members.{Mem-all, all-Mem}
use Rattle.us_format.proofs.Order.{Mem, Mem-map, Mem-of_map}
use Rattle.us_format.proofs.PackSizes.{packing-keeps-size}
use Rattle.us_format.proofs.Shares.{shares-matrix, shares-parts}
use Rattle.us_judge.specs.Format.{part_at}
use Rattle.us_layout.specs.Splitting.{AreShares}
use Rattle.us_levels.specs.Shared.{sizes_of}
use Rattle.us_levels.proofs.Entries.{entries-within}

sum-of : (s : Shape) (ys : List (Part × List Entry)) (ms : List Map) → map (λ y. y.1) ys ≡ map entries_in ms → All (λ m. shape_in m ≡ s) ms
    → sum_by (λ y. unpacked_size s y.0 y.1) ys ≡ sizes_of (map (λ y. y.0) ys) ms
sum-of s [] ms e h = refl
sum-of s (y ∷ ys) [] e h = absurd (omega (arith, ap length e))
sum-of s (y ∷ ys) (m ∷ ms) e h =
    let a : y.1 ≡ entries_in m = cc in
    let b : map (λ y. y.1) ys ≡ map entries_in ms = cc in
    let i : shape_in m ≡ s = All-head (λ (m : Map). shape_in m ≡ s) m ms h in
    sum_by-cons (λ (y : Part × List Entry). unpacked_size s y.0 y.1) y ys
    ∙ ap₂ (λ (k n : ℕ). k + n) (ap₂ (λ (z : Shape) (es : List Entry). unpacked_size z y.0 es) (sym i) a) (sum-of s ys ms b (All-tail (λ (m : Map). shape_in m ≡ s) m ms h))

shorter : (test : Cond → Entry → Bool) (cs : List Cond) (ps : List Part) (m : List Entry) (y : Part × List Entry) → Mem y (shares test cs ps m) → length y.1 ≤ length m
shorter test cs [] m y h = none cs h
  where
    none : (cs : List Cond) → Mem y (shares test cs [] m) → length y.1 ≤ length m
    none [] k = absurd k
    none (c ∷ cs) k = absurd k
shorter test [] (p ∷ ps) m y (inl e) = omega (arith, ap (λ (z : Part × List Entry). length z.1) e)
shorter test [] (p ∷ ps) m y (inr h) = absurd h
shorter test (c ∷ cs) (p ∷ ps) m y (inl e) = omega (arith, ap (λ (z : Part × List Entry). length z.1) e, length-filter (test c) m, count_by-le-length (test c) m)
shorter test (c ∷ cs) (p ∷ ps) m y (inr h) =
    omega (arith, shorter test cs ps (filter (λ x. not (test c x)) m) y h, length-filter (λ x. not (test c x)) m, count_by-le-length (λ x. not (test c x)) m)

module _ (d : Declaration) (mx : Map) (ms : List Map) (law : IsLawfulDeclaration d) (s : AreShares mx d.head d.conds ms) where
  pub entries-are : map (λ y. y.1) (parts_of (shape_in mx) d (entries_in mx)) ≡ map entries_in ms
  entries-are = s.entries d refl refl (omega (arith, law.one_more))

  pub parts-are : map (λ y. y.0) (parts_of (shape_in mx) d (entries_in mx)) ≡ d.parts
  parts-are = shares-parts (holds (entries_in mx) (shape_in mx) d) d.conds d.parts (entries_in mx) law.one_more

  pub as-many : length ms ≡ length d.parts
  as-many =
      omega (
        arith,
        length-map (parts_of (shape_in mx) d (entries_in mx)) (λ y. y.1),
        length-map (parts_of (shape_in mx) d (entries_in mx)) (λ y. y.0),
        length-map ms entries_in,
        ap length entries-are,
        ap length parts-are,
      )

  pub sizes-are : sizes_of d.parts ms ≡ size (shape_in mx) d (entries_in mx)
  sizes-are =
      ap (λ (ps : List Part). sizes_of ps ms) (sym parts-are) ∙ sym (sum-of (shape_in mx) (parts_of (shape_in mx) d (entries_in mx)) ms entries-are s.shapes)
      ∙ sym (packing-keeps-size.of_parts (shape_in mx) d (entries_in mx) law)

  pub few-each : length mx.entries ≤ limit → All (λ m. length m.entries ≤ limit) ms
  few-each few = Mem-all (λ (m : Map). length m.entries ≤ limit) ms (λ m h.
      let e : Mem (entries_in m) (map (λ y. y.1) (parts_of (shape_in mx) d (entries_in mx))) = subst (λ (l : List (List Entry)). Mem (entries_in m) l) (sym entries-are) (Mem-map entries_in m ms h) in
      let y = Mem-of_map (λ (y : Part × List Entry). y.1) (entries_in m) (parts_of (shape_in mx) d (entries_in mx)) e in
      omega (arith, few, length-map mx.entries plain_entry, length-map m.entries plain_entry, ap length y.2, shorter (holds (entries_in mx) (shape_in mx) d) d.conds d.parts (entries_in mx) y.0 y.1))

-- ---- a declaration of one part

pub one-size : (s : Shape) (d : Declaration) (m : List Entry) (p : Part) → IsLawfulDeclaration d → d.parts ≡ p ∷ [] → d.conds ≡ [] → size s d m ≡ unpacked_size s (part_at d 0) m
one-size s d m p law ps cs =
    let one : parts_of s d m ≡ (p, m) ∷ [] = ap₂ (λ (cs : List Cond) (ps : List Part). shares (holds m s d) cs ps m) cs ps in
    let at : part_at d 0 ≡ p = ap (λ (ps : List Part). get_or ps 0 (record { names = 0; queries = []; levels = []; trim = []; merge = []; packs = [] })) ps in
    packing-keeps-size.of_parts s d m law
    ∙ ap (sum_by (λ x. unpacked_size s x.0 x.1)) one ∙ sum_by-cons (λ (x : Part × List Entry). unpacked_size s x.0 x.1) (p, m) []
    ∙ omega (arith, ap (λ (z : Part). unpacked_size s z m) at)

-- ---- entries

both : (f : Entry → Bool) (m : List Entry) → length (filter f m) + length (filter (λ x. not (f x)) m) ≡ length m
both f [] = refl
both f (x ∷ m) = go (f x) (both f m)
  where
    go : (b : Bool) → length (filter f m) + length (filter (λ x. not (f x)) m) ≡ length m
        → length (cond b (x ∷ filter f m) (filter f m)) + length (cond (not b) (x ∷ filter (λ x. not (f x)) m) (filter (λ x. not (f x)) m)) ≡ suc (length m)
    go true e = omega (arith, e)
    go false e = omega (arith, e)

all-shared : (test : Cond → Entry → Bool) (cs : List Cond) (ps : List Part) (m : List Entry) → length ps ≡ length cs + 1 → sum_by (λ y. length y.1) (shares test cs ps m) ≡ length m
all-shared test [] [] m h = absurd (omega (arith, h))
all-shared test (c ∷ cs) [] m h = absurd (omega (arith, h))
all-shared test [] (p ∷ ps) m h = omega (arith, sum_by-cons (λ (y : Part × List Entry). length y.1) (p, m) [])
all-shared test (c ∷ cs) (p ∷ ps) m h =
    omega (
      arith,
      sum_by-cons (λ (y : Part × List Entry). length y.1) (p, filter (test c) m) (shares test cs ps (filter (λ x. not (test c x)) m)),
      all-shared test cs ps (filter (λ x. not (test c x)) m) (omega (arith, h)),
      both (test c) m,
    )

at-most : (f g : Part × List Entry → ℕ) (ys : List (Part × List Entry)) → ((y : Part × List Entry) → Mem y ys → f y ≤ g y) → sum_by f ys ≤ sum_by g ys
at-most f g [] h = omega arith
at-most f g (y ∷ ys) h = omega (arith, sum_by-cons f y ys, sum_by-cons g y ys, h y (inl refl), at-most f g ys (λ z k. h z (inr k)))

-- a size is no smaller than the number of entries
pub all-within : (s : Shape) (d : Declaration) (m : List Entry) → IsLawfulDeclaration d → IsMatrixOf s m → length m ≤ size s d m
all-within s d m law im =
    omega (
      arith,
      all-shared (holds m s d) d.conds d.parts m law.one_more,
      packing-keeps-size.of_parts s d m law,
      at-most (λ y. length y.1) (λ y. unpacked_size s y.0 y.1) (parts_of s d m) one,
    )
  where
    one : (y : Part × List Entry) → Mem y (parts_of s d m) → length y.1 ≤ unpacked_size s y.0 y.1
    one y h =
        let there : Mem y.0 d.parts = subst (λ (ps : List Part). Mem y.0 ps) (shares-parts (holds m s d) d.conds d.parts m law.one_more) (Mem-map (λ (z : Part × List Entry). z.0) y (parts_of s d m) h) in
        omega (arith, entries-within s y.0 y.1 (all-Mem IsLawful d.parts y.0 law.parts there) (shares-matrix (holds m s d) s d.conds d.parts m im y h))

-- ---- one part after the other

pub sizes-next : (ps : List Part) (ms : List Map) (k : ℕ) (p : Part) (m : Map) → k < length ps → length ms ≡ length ps
    → sizes_of (drop k ps) (drop k ms) ≡ unpacked_size (shape_in (get_or ms k m)) (get_or ps k p) (entries_in (get_or ms k m)) + sizes_of (drop (k + 1) ps) (drop (k + 1) ms)
sizes-next ps ms k p m h n = ap₂ (λ (x : List Part) (y : List Map). sizes_of x y) (drop_more ps k p h) (drop_more ms k m (omega (arith, h, n)))

-- what is added up of k parts, or one more than the limit
pub record IsSizeSoFar (ps : List Part) (ms : List Map) (k total : ℕ) : Type 0 where
  pub whole : min (total + sizes_of (drop k ps) (drop k ms)) (limit + 1) ≡ min (sizes_of ps ms) (limit + 1)
  pub small : total ≤ limit + 1

pub so-far-none : (ps : List Part) (ms : List Map) → IsSizeSoFar ps ms 0 0
so-far-none ps ms = record { whole = ap (λ (n : ℕ). min n (limit + 1)) (omega arith); small = omega arith }

pub so-far-next : (ps : List Part) (ms : List Map) (k total n now : ℕ) (p : Part) (m x : Map) → k < length ps → length ms ≡ length ps → IsSizeSoFar ps ms k total → x ≡ get_or ms k m
    → n ≡ min (unpacked_size (shape_in x) (get_or ps k p) (entries_in x)) (limit + 1) → now ≡ min (total + n) (limit + 1) → IsSizeSoFar ps ms (k + 1) now
so-far-next ps ms k total n now p m x h long f e q r =
    let g : n ≡ min (unpacked_size (shape_in (get_or ms k m)) (get_or ps k p) (entries_in (get_or ms k m))) (limit + 1) =
    q ∙ ap (λ (z : Map). min (unpacked_size (shape_in z) (get_or ps k p) (entries_in z)) (limit + 1)) e in
    record { whole = omega (arith, f.whole, sizes-next ps ms k p m h long, g, r); small = omega (arith, r) }

pub so-far-end : (ps : List Part) (ms : List Map) (k total : ℕ) → length ps ≤ k → IsSizeSoFar ps ms k total → total ≡ min (sizes_of ps ms) (limit + 1)
so-far-end ps ms k total h f = omega (arith, f.whole, f.small, ap (λ (x : List Part). sizes_of x (drop k ms)) (drop_all k ps h))
