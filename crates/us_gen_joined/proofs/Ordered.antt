-- The places of the entries of parts, and the entries that stand there.
use Rattle.std.specs.List.{range_with_len}
use Rattle.std.specs.List.Sorted.{IsPermutation}
use Rattle.std.specs.Prelude.{Contains}
use Rattle.std.proofs.Common.{◌≡◌, ℕ, ◌+◌, ◌-◌, ◌<◌, ◌≤◌, List, [], ◌∷◌, ◌++◌, map, length, Bool, not, sym, refl, ap, ap₂, ◌∙◌, subst, inl, inr, arith, sum_by, filter, All, ℤ, pos}
use Rattle.std.proofs.lemmas.List.{append-nil, length-map, map-append}
use Rattle.std.proofs.lemmas.List.Elements.{All-append}
use Rattle.std.proofs.lemmas.List.Sums.{sum_by-cons}
use Rattle.std.proofs.lemmas.List.Sorted.{IsPermutation-append, IsPermutation-append_right, IsPermutation-filter_both, IsPermutation-refl, IsPermutation-trans}
use Rattle.us_expr.specs.declared.queries.Cond.{Cond}
use Rattle.us_format.specs.Lists.{cell, nat_of}
use Rattle.us_format.specs.Matrix.{Entry, Shape, IsMatrixOf}
use Rattle.us_format.specs.Declaration.{Part}
use Rattle.us_format.specs.Buffers.{shares}
use Rattle.us_format.specs.Rules.{IsLawful}
use Rattle.us_format.proofs.Order.{Mem, Mem-map, Mem-of_map}
use Rattle.us_format.proofs.Members.{Mem-contains, Mem-all}
use Rattle.us_format.proofs.Collect.{Distinct}
use Rattle.us_format.proofs.Lawful.{row-major}
use Rattle.us_format_loops.proofs.Counts.{distinct-entries, distinct-map}
use Rattle.us_gen_walk.specs.Runs.{rank_of, HaveRanks}
use Rattle.us_gen_walk.proofs.Ranks.{entries_have_ranks}
use Rattle.us_gen_listing.specs.Unpack.{PartStands, PartsStand}
use Rattle.us_gen_joined.proofs.Permuted.{is_there, permuted, range-append}

-- ---- lists of parts

abbrev pub number : List (Part × List Entry) → ℕ
number [] = 0
number (y ∷ ys) = length y.1 + number ys

abbrev pub joined : List (Part × List Entry) → List Entry
joined [] = []
joined (y ∷ ys) = y.1 ++ joined ys

pub number-is : (ys : List (Part × List Entry)) → number ys ≡ sum_by (λ (y : Part × List Entry). length y.1) ys
number-is [] = refl
number-is (y ∷ ys) = omega (arith, number-is ys, sum_by-cons (λ (y : Part × List Entry). length y.1) y ys)

-- the parts share out the entries
pub shares-joined : (test : Cond → Entry → Bool) (cs : List Cond) (ps : List Part) (m : List Entry) → length ps ≡ length cs + 1 → IsPermutation m (joined (shares test cs ps m))
shares-joined test [] [] m h = absurd (omega (arith, h))
shares-joined test (c ∷ cs) [] m h = absurd (omega (arith, h))
shares-joined test [] (p ∷ ps) m h = subst (λ (zs : List Entry). IsPermutation m zs) (sym (append-nil m)) (IsPermutation-refl m)
shares-joined test (c ∷ cs) (p ∷ ps) m h =
    IsPermutation-trans m (filter (test c) m ++ filter (λ x. not (test c x)) m) (filter (test c) m ++ joined (shares test cs ps (filter (λ x. not (test c x)) m)))
    (IsPermutation-filter_both (test c) (λ x. not (test c x)) (λ x. refl) m)
    (IsPermutation-append_right (filter (test c) m) (filter (λ x. not (test c x)) m) (joined (shares test cs ps (filter (λ x. not (test c x)) m)))
    (shares-joined test cs ps (filter (λ x. not (test c x)) m) (omega (arith, h))))

-- ---- places

abbrev pub places : Shape → List (Part × List Entry) → ℕ → List ℕ
places s [] at = []
places s (y ∷ ys) at = map (λ x. at + rank_of s y.0 y.1 x) y.1 ++ places s ys (at + length y.1)

pub part_there : (s : Shape) (p : Part) (m : List Entry) (at q : ℕ) → IsLawful p → IsMatrixOf s m → at ≤ q → q < at + length m → Mem q (map (λ x. at + rank_of s p m x) m)
part_there s p m at q la im lo hi =
    let have : HaveRanks s p m = entries_have_ranks s p m la im in
    let apart : Distinct (map (rank_of s p m) m) =
    distinct-map (rank_of s p m) m (λ x y mx my e. have.apart x y (Mem-contains m x mx) (Mem-contains m y my) e) (distinct-entries m (row-major m im.sorted)) in
    let long : length (map (rank_of s p m) m) ≡ length m = length-map m (rank_of s p m) in
    let low : (y : ℕ) → Mem y (map (rank_of s p m) m) → y < length (map (rank_of s p m) m) =
    λ y my. let r = Mem-of_map (rank_of s p m) y m my in omega (arith, have.below r.0 (Mem-contains m r.0 r.1), r.2, long) in
    let r = Mem-of_map (rank_of s p m) (q - at) m (is_there (map (rank_of s p m) m) apart low (q - at) (omega (arith, lo, hi, long))) in
    let same : at + rank_of s p m r.0 ≡ q = omega (arith, r.2, lo) in
    subst (λ (z : ℕ). Mem z (map (λ x. at + rank_of s p m x) m)) same (Mem-map (λ x. at + rank_of s p m x) r.0 m r.1)

pub all_permuted : (s : Shape) (ys : List (Part × List Entry)) (at : ℕ) → ((y : Part × List Entry) → Mem y ys → IsLawful y.0 × IsMatrixOf s y.1) → IsPermutation (places s ys at) (range_with_len at (number ys))
all_permuted s [] at h = IsPermutation-refl []
all_permuted s (y ∷ ys) at h =
    let good = h y (inl refl) in
    subst (λ (zs : List ℕ). IsPermutation (places s (y ∷ ys) at) zs) (sym (range-append at (length y.1) (number ys)))
    (IsPermutation-append (map (λ x. at + rank_of s y.0 y.1 x) y.1) (range_with_len at (length y.1)) (places s ys (at + length y.1)) (range_with_len (at + length y.1) (number ys))
    (permuted (length y.1) at (map (λ x. at + rank_of s y.0 y.1 x) y.1) (length-map y.1 (λ x. at + rank_of s y.0 y.1 x)) (λ q lo hi. part_there s y.0 y.1 at q good.0 good.1 lo hi))
    (all_permuted s ys (at + length y.1) (λ z mz. h z (inr mz))))

-- ---- what stands there

module _ (is js vs : List ℤ) where
  -- the entry at a place of the columns
  abbrev pub entry_at : ℕ → Entry
  entry_at k = record { i = nat_of (cell is k); j = nat_of (cell js k); v = cell vs k }

  -- both indices there are numbers
  pub record IsEntry (k : ℕ) : Type 0 where
    pub row : cell is k ≡ pos (nat_of (cell is k))
    pub col : cell js k ≡ pos (nat_of (cell js k))

  module _ (s : Shape) (p : Part) (m : List Entry) (at : ℕ) (st : PartStands s p m at is js vs) where
    pub stands : (x : Entry) → Contains m x → entry_at (at + rank_of s p m x) ≡ x
    stands x cx =
        let e : nat_of (cell is (at + rank_of s p m x)) ≡ x.i = ap nat_of (st.row x cx) in
        let f : nat_of (cell js (at + rank_of s p m x)) ≡ x.j = ap nat_of (st.col x cx) in
        let g : cell vs (at + rank_of s p m x) ≡ x.v = st.value x cx in
        λ t. record { i = e t; j = f t; v = g t }

    is_entry : (x : Entry) → Contains m x → IsEntry (at + rank_of s p m x)
    is_entry x cx = record {
      row = st.row x cx ∙ sym (ap (λ (z : ℤ). pos (nat_of z)) (st.row x cx));
      col = st.col x cx ∙ sym (ap (λ (z : ℤ). pos (nat_of z)) (st.col x cx));
    }

    part_read : (zs : List Entry) → ((x : Entry) → Mem x zs → Contains m x) → map entry_at (map (λ x. at + rank_of s p m x) zs) ≡ zs
    part_read [] h = refl
    part_read (z ∷ zs) h = ap₂ (λ (x : Entry) (l : List Entry). x ∷ l) (stands z (h z (inl refl))) (part_read zs (λ x mx. h x (inr mx)))

    part_entries : All IsEntry (map (λ x. at + rank_of s p m x) m)
    part_entries =
        Mem-all IsEntry (map (λ x. at + rank_of s p m x) m)
        (λ k mk. let r = Mem-of_map (λ x. at + rank_of s p m x) k m mk in subst IsEntry r.2 (is_entry r.0 (Mem-contains m r.0 r.1)))

  pub all_read : (s : Shape) (ys : List (Part × List Entry)) (at : ℕ) → PartsStand s ys at is js vs → map entry_at (places s ys at) ≡ joined ys
  all_read s [] at st = refl
  all_read s (y ∷ ys) at st =
      map-append entry_at (map (λ x. at + rank_of s y.0 y.1 x) y.1) (places s ys (at + length y.1))
      ∙ ap₂ (λ (a b : List Entry). a ++ b) (part_read s y.0 y.1 at st.0 y.1 (λ x mx. Mem-contains y.1 x mx)) (all_read s ys (at + length y.1) st.1)

  pub all_entries : (s : Shape) (ys : List (Part × List Entry)) (at : ℕ) → PartsStand s ys at is js vs → All IsEntry (places s ys at)
  all_entries s [] at st = Mem-all IsEntry [] (λ k mk. absurd mk)
  all_entries s (y ∷ ys) at st =
      All-append IsEntry (map (λ x. at + rank_of s y.0 y.1 x) y.1) (places s ys (at + length y.1)) (part_entries s y.0 y.1 at st.0) (all_entries s ys (at + length y.1) st.1)
