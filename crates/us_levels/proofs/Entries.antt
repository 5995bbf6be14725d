-- The size of a part is no smaller than the number of its entries.
use Rattle.std.specs.Prelude.{ℤ}
use Rattle.std.specs.List.{range_with_len}
use Rattle.std.proofs.Common.{◌≡◌, ℕ, ◌<◌, ◌≤◌, List, [], ◌∷◌, map, length, count_by, true, inl, inr, refl, ap, subst, arith, sum_by}
use Rattle.std.proofs.lemmas.List.{length-map}
use Rattle.std.proofs.lemmas.List.FromFn.{length-map-range_with_len}
use Rattle.std.proofs.lemmas.List.Sums.{sum_by-cons, sum_by-append}
use Rattle.us_format.specs.Lists.{head}
use Rattle.us_format.specs.Matrix.{Shape, Entry, IsMatrixOf, earlier}
use Rattle.us_format.specs.Declaration.{Part}
use Rattle.us_format.specs.Kinds.{Level, levels_of}
use Rattle.us_format.specs.Packs.{Buffer}
use Rattle.us_format.specs.Positions.{Row, count_below, down, rows_of}
use Rattle.us_format.specs.Queries.{extents_of}
use Rattle.us_format.specs.Buffers.{buffers_at, level_buffers, val_buffer}
use Rattle.us_format.specs.Rules.{IsLawful}
use Rattle.us_format.proofs.Agree.{Sound}
use Rattle.us_format.proofs.Collect.{RowMajor, Distinct, earlier-irrefl, range-Mem}
use Rattle.us_format.proofs.Lawful.{sound, tables, row-major}
use Rattle.us_format.proofs.Order.{Mem, Mem-map, Mem-of_map}
use Rattle.us_format.proofs.PartMeaning.{place_of, one-place, place-below}
use Rattle.us_format.proofs.Shuffled.{count-within, count-all}
use Rattle.us_format.proofs.Values.{last_count, values-length}
use Rattle.us_build.specs.Pieces.{piece_size}

-- the numbers of two lists: where no number of the first comes twice and each is below n, there are at most n
below-many : (n : ℕ) (xs : List Entry) (f : Entry → ℕ) → Distinct (map (λ x. f x ∷ []) xs) → ((x : Entry) → Mem x xs → f x < n) → length xs ≤ n
below-many n xs f d h =
    let a : count_by (λ _. true) (map (λ x. f x ∷ []) xs) ≤ count_by (λ _. true) (map (λ k. k ∷ []) (range_with_len 0 n)) = count-within (λ _. true) (map (λ x. f x ∷ []) xs) (map (λ k. k ∷ []) (range_with_len 0 n)) d there in
    omega (
      arith,
      a,
      count-all (map (λ x. f x ∷ []) xs),
      count-all (map (λ k. k ∷ []) (range_with_len 0 n)),
      length-map xs (λ x. f x ∷ []),
      length-map-range_with_len (λ k. k ∷ []) 0 n,
    )
  where
    there : (y : List ℕ) → Mem y (map (λ x. f x ∷ []) xs) → Mem y (map (λ k. k ∷ []) (range_with_len 0 n))
    there y m =
        let a = Mem-of_map (λ x. f x ∷ []) y xs m in
        subst (λ (z : List ℕ). Mem z (map (λ k. k ∷ []) (range_with_len 0 n))) a.2 (Mem-map (λ k. k ∷ []) (f a.0) (range_with_len 0 n) (range-Mem 0 n (f a.0) (omega arith) (omega (arith, h a.0 a.1))))

apart-places : (f : Entry → ℕ) (xs : List Entry) → RowMajor xs → ((x y : Entry) → Mem x xs → Mem y xs → f x ≡ f y → x ≡ y) → Distinct (map (λ x. f x ∷ []) xs)
apart-places f [] r one = tt
apart-places f (x ∷ xs) r one = (alone, apart-places f xs r.1 (λ y z my mz e. one y z (inr my) (inr mz) e))
  where
    alone : Mem (f x ∷ []) (map (λ y. f y ∷ []) xs) → ⊥
    alone m =
        let a = Mem-of_map (λ y. f y ∷ []) (f x ∷ []) xs m in
        let e : f a.0 ≡ f x = ap head a.2 in
        earlier-irrefl x (subst (λ (z : Entry). earlier x z ≡ true) (one a.0 x (inr a.1) (inl refl) e) (r.0 a.0 a.1))

last-within : (ls : List Level) (n : ℕ) (rows : List Row) → last_count ls n rows ≤ sum_by (λ b. b.len) (level_buffers ls n rows)
last-within [] n rows = rw (sum_by-cons (λ (b : Buffer). b.len) (val_buffer n rows) []) (omega arith)
last-within (l ∷ ls) n rows =
    rw (sum_by-append (λ (b : Buffer). b.len) (buffers_at l.kind l.size n rows) (level_buffers ls (count_below l.kind l.size n rows) (down l.kind l.size rows)))
    (omega (arith, last-within ls (count_below l.kind l.size n rows) (down l.kind l.size rows)))

-- a size is no smaller than the number of entries
pub entries-within : (s : Shape) (p : Part) (m : List Entry) → IsLawful p → IsMatrixOf s m → length m ≤ piece_size s p m
entries-within s p m la im =
    let so : Sound m s p = sound s p m la im in
    let ts : List (List ℤ) = tables s p m la im in
    let few : length m ≤ last_count (levels_of s (extents_of m s p) p) 1 (rows_of m s p) =
    below-many (last_count (levels_of s (extents_of m s p) p) 1 (rows_of m s p)) m (place_of m s p so ts) (apart-places (place_of m s p so ts) m (row-major m im.sorted) (one-place m s p so ts)) (λ x mx. below x mx) in
    omega (arith, few, last-within (levels_of s (extents_of m s p) p) 1 (rows_of m s p))
  where
    below : (x : Entry) → Mem x m → place_of m s p (sound s p m la im) (tables s p m la im) x < last_count (levels_of s (extents_of m s p) p) 1 (rows_of m s p)
    below x mx =
        subst (λ (k : ℕ). place_of m s p (sound s p m la im) (tables s p m la im) x < k) (values-length (levels_of s (extents_of m s p) p) 1 (rows_of m s p)) (place-below m s p (sound s p m la im) (tables s p m la im) x mx)
