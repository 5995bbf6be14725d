-- What the buffers of a whole declaration hold is the matrix.
use Rattle.std.specs.Prelude.{slice_get, Result, Ok}
use Rattle.std.proofs.Common.{◌≡◌, ℕ, zero, suc, ◌+◌, ◌<◌, ◌≤◌, ◌⊎◌, List, [], ◌∷◌, ◌++◌, All, map, length, Bool, true, false, ◌&&◌, eqb, ℤ, sym, refl, ap, ap₂, ◌∙◌, subst, inl, inr, arith, Option, Some, None, eqb-true, eq-eqb, filter}
use Rattle.std.proofs.lemmas.Bool.{and_parts, and_from}
use Rattle.std.specs.List.{range_with_len, sum_by, sum, list_any}
use Rattle.std.proofs.Math.ListN.{length-append, length-map}
use Rattle.std.proofs.lemmas.List.{map-append}
use Rattle.std.proofs.lemmas.List.Sums.{sum_by-cons}
use Rattle.us_expr.specs.declared.queries.Cond.{Cond}
use Rattle.us_format.specs.Lists.{then_do, cell}
use Rattle.us_format.specs.Matrix.{Entry, Shape, IsMatrixOf, is_zero}
use Rattle.us_format.specs.Declaration.{Query, Part, Declaration}
use Rattle.us_format.specs.Queries.{extent_of, extents_of}
use Rattle.us_format.specs.Packs.{written}
use Rattle.us_format.specs.Buffers.{part_buffers, part_counts, holds, parts_of, all_buffers, buffers}
use Rattle.us_format.specs.Reading.{Contents, all_contents, buffer_count, total_count, limit, part_tests, all_tests, all_counts_in}
use Rattle.us_format.specs.Meaning.{part_values, entry_at, collect, Position, all_positions, value_in, collected}
use Rattle.us_format.specs.Rules.{HasLanes, IsLawful, ArePacksLawful, IsLawfulDeclaration}
use Rattle.us_format.specs.Laws.{contents_of, position_of, AreExtentsSmall, BuffersAreCounted, BuffersFit, BuffersMeanMatrix, OneMatrixByBuffers, SizeIsOfBuffers}
use Rattle.us_format.proofs.Fits.{AllPass, pass-append, pass-moved, none-fails, part-passes, part-counts-read}
use Rattle.us_format.proofs.Sizes.{lengths-written}
use Rattle.us_format.proofs.Order.{Mem, Mem-map, Mem-of_map}
use Rattle.us_format.proofs.Members.{all-Mem, Mem-all, item-Mem, Mem-left, Mem-right, Mem-either}
use Rattle.us_format.proofs.Collect.{Distinct, collect-is, filter-none, filter-all, Mem-range, range-Mem, range-distinct}
use Rattle.us_format.proofs.Lawful.{sound, tables, is-matrix, row-major}
use Rattle.us_format.proofs.PartMeaning.{ReadsAt, one-place, place-below, reads-at}
use Rattle.us_format.proofs.Pieces.{Mem-any}
use Rattle.us_format.proofs.Places.{contents-are, buffers-number, drop-part}
use Rattle.us_format.proofs.Shares.{share_of, shares-parts, shares-matrix, shares-from, shares-there}

-- a part with its entries
abbrev pub Share : Type 0
Share = Part × List Entry

-- ---- all contents

-- a part with what its buffers hold
abbrev pub held_by : Shape → Share → Part × Contents
held_by s y = (y.0, contents_of s y.0 y.1)

pub buffers-apart : (s : Shape) (y : Share) (ys : List Share) → map written (all_buffers s (y ∷ ys)) ≡ map written (part_buffers s y.0 y.1) ++ map written (all_buffers s ys)
buffers-apart s y ys = map-append written (part_buffers s y.0 y.1) (all_buffers s ys)

pub all-contents-are : (s : Shape) (ys : List Share) → ((y : Share) → Mem y ys → ArePacksLawful y.0)
    → all_contents (map (λ y. y.0) ys) (map written (all_buffers s ys)) ≡ map (held_by s) ys
all-contents-are s [] h = refl
all-contents-are s (y ∷ ys) h =
    ap (all_contents (y.0 ∷ map (λ y. y.0) ys)) (buffers-apart s y ys)
    ∙ ap₂ (λ (c : Contents) (rest : List (Part × Contents)). (y.0, c) ∷ rest) (contents-are s y.0 y.1 (h y (inl refl)) (map written (all_buffers s ys)))
    (ap (all_contents (map (λ y. y.0) ys)) (drop-part s y.0 y.1 (h y (inl refl)) (map written (all_buffers s ys))) ∙ all-contents-are s ys (λ z m. h z (inr m)))

pub buffers-counted : (s : Shape) (ys : List Share) → ((y : Share) → Mem y ys → ArePacksLawful y.0) → length (all_buffers s ys) ≡ sum_by buffer_count (map (λ y. y.0) ys)
buffers-counted s [] h = refl
buffers-counted s (y ∷ ys) h =
    length-append (part_buffers s y.0 y.1) (all_buffers s ys)
    ∙ ap₂ (λ (a b : ℕ). a + b) (buffers-number s y.0 y.1 (h y (inl refl)) []) (buffers-counted s ys (λ z m. h z (inr m)))
    ∙ sym (sum_by-cons buffer_count y.0 (map (λ y. y.0) ys))

-- ---- positions

-- how many values a share has
abbrev pub values_of : Shape → Share → ℕ
values_of s y = length (part_values s y.0 (contents_of s y.0 y.1))

pub position-there : (s : Shape) (k : ℕ) (ys : List Share) (j : ℕ) (y : Share) (x : ℕ) → slice_get ys j ≡ Some y → x < values_of s y → Mem (k + j, x) (all_positions s k (map (held_by s) ys))
position-there s k [] j y x at h = absurd (cc)
position-there s k (z ∷ ys) zero y x at h =
    let e : z ≡ y = cc in
    subst (λ (n : ℕ). Mem (n, x) (all_positions s k (map (held_by s) (z ∷ ys)))) (omega arith)
    (Mem-left (k, x) (map (λ x. (k, x)) (range_with_len 0 (values_of s z))) _
    (Mem-map (λ x. (k, x)) x (range_with_len 0 (values_of s z)) (range-Mem 0 (values_of s z) x (omega arith) (rw e (omega (arith, h))))))
position-there s k (z ∷ ys) (suc j) y x at h =
    subst (λ (n : ℕ). Mem (n, x) (all_positions s k (map (held_by s) (z ∷ ys)))) (omega arith)
    (Mem-right (suc k + j, x) (map (λ x. (k, x)) (range_with_len 0 (values_of s z))) _ (position-there s (suc k) ys j y x at h))

-- the share and the place of a position
abbrev pub StandsAt : Shape → ℕ → List Share → Position → Type 0
StandsAt s k ys at = (j : ℕ) × (y : Share) × (at.0 ≡ k + j) × (slice_get ys j ≡ Some y) × (at.1 < values_of s y)

pub position-from : (s : Shape) (k : ℕ) (ys : List Share) (at : Position) → Mem at (all_positions s k (map (held_by s) ys)) → StandsAt s k ys at
position-from s k [] at h = absurd h
position-from s k (y ∷ ys) at h = go (Mem-either at (map (λ x. (k, x)) (range_with_len 0 (values_of s y))) _ h) (position-from s (suc k) ys at)
  where
    go : (Mem at (map (λ x. (k, x)) (range_with_len 0 (values_of s y))) ⊎ Mem at (all_positions s (suc k) (map (held_by s) ys)))
        → (Mem at (all_positions s (suc k) (map (held_by s) ys)) → StandsAt s (suc k) ys at) → StandsAt s k (y ∷ ys) at
    go (inl m) ih =
        let r = Mem-of_map (λ x. (k, x)) at (range_with_len 0 (values_of s y)) m in
        let b = Mem-range 0 (values_of s y) r.0 r.1 in
        (0, y, sym (ap (λ (z : Position). z.0) r.2) ∙ omega arith, refl, subst (λ (z : Position). z.1 < values_of s y) r.2 (omega (arith, b.1)))
    go (inr m) ih = let r = ih m in (suc r.0, r.1, omega (arith, r.2), r.3, r.4)

pub distinct-map : (k : ℕ) (xs : List ℕ) → Distinct xs → Distinct {K = Position} (map (λ x. (k, x)) xs)
distinct-map k [] d = tt
distinct-map k (x ∷ xs) d = ((λ m. let r = Mem-of_map (λ x. (k, x)) (k, x) xs m in d.0 (subst (λ (z : Position). Mem z.1 xs) r.2 r.1)), distinct-map k xs d.1)

pub distinct-append : {K : Type 0} (xs ys : List K) → Distinct xs → Distinct ys → ((x : K) → Mem x xs → Mem x ys → ⊥) → Distinct (xs ++ ys)
distinct-append [] ys d e n = e
distinct-append {K} (x ∷ xs) ys d e n = (no, distinct-append xs ys d.1 e (λ z m k. n z (inr m) k))
  where
    no : Mem x (xs ++ ys) → ⊥
    no m = go (Mem-either x xs ys m)
      where
        go : (Mem x xs ⊎ Mem x ys) → ⊥
        go (inl k) = d.0 k
        go (inr k) = n x (inl refl) k

pub positions-distinct : (s : Shape) (k : ℕ) (ys : List Share) → Distinct (all_positions s k (map (held_by s) ys))
positions-distinct s k [] = tt
positions-distinct s k (y ∷ ys) =
    distinct-append (map (λ x. (k, x)) (range_with_len 0 (values_of s y))) (all_positions s (suc k) (map (held_by s) ys))
    (distinct-map k (range_with_len 0 (values_of s y)) (range-distinct 0 (values_of s y))) (positions-distinct s (suc k) ys)
    (λ at m n.
    let r = Mem-of_map (λ x. (k, x)) at (range_with_len 0 (values_of s y)) m in
    let f = position-from s (suc k) ys at n in
    omega (arith, ap (λ (z : Position). z.0) r.2, f.2))

-- ---- the whole

-- what is read at a position of a lawful part
pub part-reads : (s : Shape) (p : Part) (m : List Entry) (la : IsLawful p) (im : IsMatrixOf s m) → (x : ℕ) → x < length (part_values s p (contents_of s p m)) → ReadsAt m s p (sound s p m la im) (tables s p m la im) x
part-reads s p m la im x l =
    reads-at m s p (sound s p m la im) (tables s p m la im) (is-matrix s p m la im) x l

pub same_position : Position → Position → Bool
same_position a b = eqb a.0 b.0 && eqb a.1 b.1

pub same_position-true : (a b : Position) → same_position a b ≡ true → a ≡ b
unfolding same_position
same_position-true a b h =
    let p = and_parts (eqb a.0 b.0) (eqb a.1 b.1) h in
    let e : a.0 ≡ b.0 = eqb-true a.0 b.0 p.0 in
    let f : a.1 ≡ b.1 = eqb-true a.1 b.1 p.1 in
    ap₂ (λ (x y : ℕ). (x, y)) e f

pub same_position-self : (a : Position) → same_position a a ≡ true
unfolding same_position
same_position-self a = and_from (eqb a.0 a.0) (eqb a.1 a.1) (eq-eqb a.0 a.0 refl) (eq-eqb a.1 a.1 refl)

pub get-held : (s : Shape) (ys : List Share) (j : ℕ) (y : Share) → slice_get ys j ≡ Some y → slice_get (map (held_by s) ys) j ≡ Some (held_by s y)
get-held s [] j y h = absurd (cc)
get-held s (z ∷ ys) zero y h = let e : z ≡ y = cc in ap (λ (a : Share). Some (held_by s a)) e
get-held s (z ∷ ys) (suc j) y h = get-held s ys j y h

module _ (s : Shape) (d : Declaration) (m : List Entry) (law : IsLawfulDeclaration d) where
  abbrev pub test : Cond → Entry → Bool
  test = holds m s d

  abbrev pub ys : List Share
  ys = parts_of s d m

  pub parts-are : map (λ y. y.0) ys ≡ d.parts
  parts-are = shares-parts test d.conds d.parts m law.one_more

  pub part-of : (y : Share) → Mem y ys → Mem y.0 d.parts
  part-of y h = subst (λ (ps : List Part). Mem y.0 ps) parts-are (Mem-map (λ y. y.0) y ys h)

  pub part-lawful : (y : Share) → Mem y ys → IsLawful y.0
  part-lawful y h = all-Mem IsLawful d.parts y.0 law.parts (part-of y h)

  pub packs-lawful : (y : Share) → Mem y ys → ArePacksLawful y.0
  packs-lawful y h = all-Mem ArePacksLawful d.parts y.0 law.packs (part-of y h)

  pub contents-held : all_contents d.parts (buffers s d m) ≡ map (held_by s) ys
  contents-held = ap (λ ps. all_contents ps (buffers s d m)) (sym parts-are) ∙ all-contents-are s ys packs-lawful

  pub number-counted : length (all_buffers s ys) ≡ total_count d
  number-counted = buffers-counted s ys packs-lawful ∙ ap (sum_by buffer_count) parts-are

  module _ (im : IsMatrixOf s m) where
    pub part-matrix : (y : Share) → Mem y ys → IsMatrixOf s y.1
    part-matrix y h = shares-matrix test s d.conds d.parts m im y h

    -- the position of an entry in its part
    abbrev pub position_in : Option Share → Entry → ℕ
    position_in None x = 0
    position_in (Some y) x = position_of s y.0 y.1 x

    -- the part of an entry and its position there
    abbrev pub key : Entry → Position
    key x = (share_of test d.conds x, position_in (slice_get ys (share_of test d.conds x)) x)

    pub there : (x : Entry) → Mem x m → (y : Share) × (slice_get ys (share_of test d.conds x) ≡ Some y) × Mem x y.1
    there x mx = shares-there test d.conds d.parts m x law.one_more mx

    pub key-at : (x : Entry) (y : Share) → slice_get ys (share_of test d.conds x) ≡ Some y → (key x).1 ≡ position_of s y.0 y.1 x
    key-at x y at = ap (λ (o : Option Share). position_in o x) at

    pub one-key : (a b : Entry) → Mem a m → Mem b m → key a ≡ key b → a ≡ b
    one-key a b ma mb e =
        let f = there a ma in
        let g = there b mb in
        let k : share_of test d.conds a ≡ share_of test d.conds b = ap (λ (z : Position). z.0) e in
        let o : Some g.0 ≡ Some f.0 = sym g.1 ∙ ap (slice_get ys) (sym k) ∙ f.1 in
        let w : g.0 ≡ f.0 = cc in
        let my : Mem f.0 ys = item-Mem ys (share_of test d.conds a) f.0 f.1 in
        one-place f.0.1 s f.0.0 (sound s f.0.0 f.0.1 (part-lawful f.0 my) (part-matrix f.0 my)) (tables s f.0.0 f.0.1 (part-lawful f.0 my) (part-matrix f.0 my)) a b f.2
        (subst (λ (y : Share). Mem b y.1) w g.2)
        (sym (key-at a f.0 f.1) ∙ ap (λ (z : Position). z.1) e ∙ key-at b g.0 g.1 ∙ ap (λ (y : Share). position_of s y.0 y.1 b) w)

    -- the positions of a share
    abbrev pub IsRead : Share → ℕ → Type 0
    IsRead y x =
        ((is_zero (cell (part_values s y.0 (contents_of s y.0 y.1)) x) ≡ true) × ((e : Entry) → Mem e y.1 → position_of s y.0 y.1 e ≡ x → ⊥))
        ⊎ ((is_zero (cell (part_values s y.0 (contents_of s y.0 y.1)) x) ≡ false)
        × ((e : Entry) × Mem e y.1 × (position_of s y.0 y.1 e ≡ x) × (entry_at s y.0 (contents_of s y.0 y.1) x ≡ Some e)))

    pub share-reads : (y : Share) → Mem y ys → (x : ℕ) → x < values_of s y → IsRead y x
    share-reads y my x l = part-reads s y.0 y.1 (part-lawful y my) (part-matrix y my) x l

    pub share-below : (y : Share) → Mem y ys → (e : Entry) → Mem e y.1 → position_of s y.0 y.1 e < values_of s y
    share-below y my e me =
        place-below y.1 s y.0 (sound s y.0 y.1 (part-lawful y my) (part-matrix y my)) (tables s y.0 y.1 (part-lawful y my) (part-matrix y my)) e me

    abbrev pub skip : Position → Bool
    skip at = is_zero (value_in s (slice_get (map (held_by s) ys) at.0) at.1)

    abbrev pub read : Position → Option Entry
    read at = then_do (slice_get (map (held_by s) ys) at.0) (λ part. entry_at s part.0 part.1 at.1)

    abbrev pub Reads : Position → Type 0
    Reads at = ((skip at ≡ true) × ((e : Entry) → Mem e m → key e ≡ at → ⊥)) ⊎ ((skip at ≡ false) × ((e : Entry) × Mem e m × (key e ≡ at) × (read at ≡ Some e)))

    pub reads-share : (j : ℕ) (y : Share) (x : ℕ) → slice_get ys j ≡ Some y → IsRead y x → Reads (j, x)
    reads-share j y x at (inl (z, none)) =
        inl (
          rw (get-held s ys j y at) z,
          λ e me q.
              let f = there e me in
              let k : share_of test d.conds e ≡ j = ap (λ (a : Position). a.0) q in
              let o : Some f.0 ≡ Some y = sym f.1 ∙ ap (slice_get ys) k ∙ at in
              let w : f.0 ≡ y = cc in
              none e (subst (λ (y : Share). Mem e y.1) w f.2) (ap (λ (y : Share). position_of s y.0 y.1 e) (sym w) ∙ sym (key-at e f.0 f.1) ∙ ap (λ (a : Position). a.1) q),
        )
    reads-share j y x at (inr (z, (e, me, q, r))) =
        let f = shares-from test d.conds d.parts m j y e at me in
        let k : share_of test d.conds e ≡ j = f.1 in
        inr (
          rw (get-held s ys j y at) z,
          (
            e,
            f.0,
            ap₂ (λ (a b : ℕ). (a, b)) k (key-at e y (ap (slice_get ys) k ∙ at) ∙ q),
            rw (get-held s ys j y at) r,
          ),
        )

    abbrev pub positions : List Position
    positions = all_positions s 0 (map (held_by s) ys)

    pub reads-all : (at : Position) → Mem at positions → Reads at
    reads-all at h =
        let f = position-from s 0 ys at h in
        let e : at.0 ≡ f.0 = omega (arith, f.2) in
        subst Reads (ap (λ (n : ℕ). (n, at.1)) (sym e)) (reads-share f.0 f.1 at.1 f.3 (share-reads f.1 (item-Mem ys f.0 f.1 f.3) at.1 f.4))

    pub key-there : (x : Entry) → Mem x m → Mem (key x) positions
    key-there x mx =
        let f = there x mx in
        let b : (key x).1 < values_of s f.0 = rw (key-at x f.0 f.1) (share-below f.0 (item-Mem ys _ f.0 f.1) x f.2) in
        subst (λ (n : ℕ). Mem (n, (key x).1) positions) (omega arith) (position-there s 0 ys (share_of test d.conds x) f.0 (key x).1 f.1 b)

    -- the entries at all positions are the matrix
    pub collected-is : collected s d (buffers s d m) ≡ Ok m
    collected-is =
        ap (λ (parts : List (Part × Contents)).
        collect (λ at. is_zero (value_in s (slice_get parts at.0) at.1)) (λ at. then_do (slice_get parts at.0) (λ part. entry_at s part.0 part.1 at.1)) (all_positions s 0 parts) [])
        contents-held
        ∙ subst (λ (l : List Entry). collect skip read positions l ≡ Ok (filter (λ y. list_any (λ b. same_position (key y) b) positions) m)) (filter-none m)
        (collect-is same_position same_position-true same_position-self skip read key m (row-major m im.sorted) one-key positions (λ _. false) reads-all (positions-distinct s 0 ys) (λ y my k. refl))
        ∙ ap Ok (filter-all (λ y. list_any (λ b. same_position (key y) b) positions) m (λ y my. Mem-any same_position same_position-true same_position-self (key y) positions (key-there y my)))

-- ---- lengths

pub all-pass : (s : Shape) (k : ℕ) (ys : List Share) → ((y : Share) → Mem y ys → ArePacksLawful y.0) → ((y : Share) → Mem y ys → (q : Query) → Mem q y.0.queries → HasLanes q)
    → ((y : Share) → Mem y ys → (q : Query) → Mem q y.0.queries → extent_of y.1 s q ≤ limit) → AllPass (all_tests s k (map (λ y. y.0) ys) (map written (all_buffers s ys)))
all-pass s k [] packs lanes small = tt
all-pass s k (y ∷ ys) packs lanes small =
    subst (λ (bufs : List (List ℤ)). AllPass (all_tests s k (y.0 ∷ map (λ y. y.0) ys) bufs)) (sym (buffers-apart s y ys))
    (pass-append (map (λ t. (k + t.0, t.1)) (part_tests s y.0 (map written (part_buffers s y.0 y.1) ++ map written (all_buffers s ys)))) _
    (pass-moved k (part_tests s y.0 (map written (part_buffers s y.0 y.1) ++ map written (all_buffers s ys)))
    (part-passes s y.0 y.1 (packs y (inl refl)) (map written (all_buffers s ys)) (lanes y (inl refl)) (small y (inl refl))))
    (subst (λ (bufs : List (List ℤ)). AllPass (all_tests s (k + buffer_count y.0) (map (λ y. y.0) ys) bufs)) (sym (drop-part s y.0 y.1 (packs y (inl refl)) (map written (all_buffers s ys))))
    (all-pass s (k + buffer_count y.0) ys (λ z m. packs z (inr m)) (λ z m. lanes z (inr m)) (λ z m. small z (inr m)))))

pub all-counts-read : (s : Shape) (ys : List Share) → ((y : Share) → Mem y ys → ArePacksLawful y.0)
    → all_counts_in s (map (λ y. y.0) ys) (map written (all_buffers s ys)) ≡ sum_by (λ x. sum (part_counts s x.0 x.1)) ys
all-counts-read s [] packs = refl
all-counts-read s (y ∷ ys) packs =
    ap (all_counts_in s (y.0 ∷ map (λ y. y.0) ys)) (buffers-apart s y ys)
    ∙ ap₂ (λ (a b : ℕ). a + b) (ap sum (part-counts-read s y.0 y.1 (packs y (inl refl)) (map written (all_buffers s ys))))
    (ap (all_counts_in s (map (λ y. y.0) ys)) (drop-part s y.0 y.1 (packs y (inl refl)) (map written (all_buffers s ys))) ∙ all-counts-read s ys (λ z m. packs z (inr m)))
    ∙ sym (sum_by-cons (λ (x : Share). sum (part_counts s x.0 x.1)) y ys)

-- ---- the laws

pub buffers-are-counted : BuffersAreCounted
buffers-are-counted s d m law = number-counted s d m law

pub buffers-fit : BuffersFit
buffers-fit s d m law im small =
    rw (
      eq-eqb (length (buffers s d m)) (total_count d) (length-map (all_buffers s (parts_of s d m)) written ∙ number-counted s d m law),
      none-fails (all_tests s 0 d.parts (buffers s d m)) (subst (λ (ps : List Part). AllPass (all_tests s 0 ps (buffers s d m))) (parts-are s d m law) passed),
    ) refl
  where
    passed : AllPass (all_tests s 0 (map (λ y. y.0) (parts_of s d m)) (buffers s d m))
    passed =
        all-pass s 0 (parts_of s d m) (packs-lawful s d m law)
        (λ y my q mq. let la : IsLawful y.0 = part-lawful s d m law y my in all-Mem HasLanes y.0.queries q la.lanes mq)
        (λ y my q mq.
        all-Mem (λ n. n ≤ limit) (extents_of y.1 s y.0) (extent_of y.1 s q) (all-Mem (λ x. All (λ n. n ≤ limit) (extents_of x.1 s x.0)) (parts_of s d m) y small.small my)
        (Mem-map (extent_of y.1 s) q y.0.queries mq))

pub buffers-mean-matrix : BuffersMeanMatrix
buffers-mean-matrix s d m law im = record {
  entries = collected-is s d m law im;
  meant = λ small. rw (buffers-fit s d m law im small, collected-is s d m law im) refl;
}

pub one-matrix-by-buffers : OneMatrixByBuffers
one-matrix-by-buffers s d m n law im jm h = same m n _ _ (collected-is s d m law im) (collected-is s d n law jm) (ap (collected s d) h)
  where
    same : (a b : List Entry) (x y : Result (List Entry) Position) → x ≡ Ok a → y ≡ Ok b → x ≡ y → a ≡ b
    same a b x y p q e = cc

pub size-is-of-buffers : SizeIsOfBuffers
size-is-of-buffers s d m law =
    ap₂ (λ (a b : ℕ). a + b) (sym (lengths-written (all_buffers s (parts_of s d m))))
    (ap (λ ps. all_counts_in s ps (buffers s d m)) (sym (parts-are s d m law)) ∙ all-counts-read s (parts_of s d m) (packs-lawful s d m law))

-- without queries there are no extents
pub small-without-queries : (s : Shape) (d : Declaration) (m : List Entry) → IsLawfulDeclaration d → All (λ p. p.queries ≡ []) d.parts → AreExtentsSmall s d m
small-without-queries s d m law none = record {
  small = Mem-all (λ x. All (λ n. n ≤ limit) (extents_of x.1 s x.0)) (parts_of s d m) (λ y my.
      let e : y.0.queries ≡ [] = all-Mem (λ p. p.queries ≡ []) d.parts y.0 none (part-of s d m law y my) in
      subst (λ (qs : List Query). All (λ n. n ≤ limit) (map (extent_of y.1 s) qs)) (sym e) (λ k x l. absurd (omega (arith, l))));
}
