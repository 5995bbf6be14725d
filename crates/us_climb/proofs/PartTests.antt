-- The tests of a part among whose buffers the first has the number f, and the tests of all parts.
use Rattle.std.proofs.Common.{◌≡◌, ℕ, suc, ◌+◌, ◌<◌, ◌≤◌, ◌^◌, List, [], ◌∷◌, ◌++◌, map, length, drop, Bool, true, false, cond, eqb, min, not, ℤ, pos, negsuc, refl, sym, ap, ap₂, ◌∙◌, arith, add-zero}
use Rattle.std.specs.Prelude.{Option, Some, None, is_none}
use Rattle.std.specs.List.{All}
use Rattle.std.proofs.Math.Seq.{drop-cons}
use Rattle.std.proofs.lemmas.Bool.Decides.{nat_tests}
use Rattle.std.proofs.lemmas.List.{drop-drop, map-append}
use Rattle.std.proofs.lemmas.List.Elements.{All-nil, All-cons}
use Rattle.us_format.specs.Lists.{nth, cell, nat_of, or_else, when}
use Rattle.us_format.specs.Matrix.{Shape}
use Rattle.us_format.specs.Declaration.{Query, Part, Declaration, has_extent, has_table}
use Rattle.us_format.specs.Kinds.{levels_of}
use Rattle.us_format.specs.Reading.{Test, buffer_count, extent_count, extents_in, extent_tests, is_extent, table_fits, table_tests, walk, part_tests, all_tests, fits, total_count}
use Rattle.us_judge.specs.Format.{part_at}
use Rattle.us_climb.specs.Layout.{first_failing, levels_failing, stored_failing, moved, part_failing}
use Rattle.us_climb.proofs.Walks.{buffer-there}

-- ---- the first of two lists of tests

or_first : {A : Type 0} (a b c : Option A) → or_else (or_else a b) c ≡ or_else a (or_else b c)
or_first None b c = refl
or_first (Some x) b c = refl

pub failing-append : (ts us : List Test) → first_failing (ts ++ us) ≡ or_else (first_failing ts) (first_failing us)
failing-append [] us = refl
failing-append (t ∷ ts) us = ap (λ (o : Option ℕ). or_else (when (not t.1) t.0) o) (failing-append ts us) ∙ sym (or_first (when (not t.1) t.0) (first_failing ts) (first_failing us))

-- ---- extents

extent_small : (xs : List ℤ) → is_extent xs ≡ true → nat_of (cell xs 0) ≤ 2 ^ 31
extent_small [] e = absurd cc
extent_small (pos n ∷ []) e = grind (arith, nat_tests)
extent_small (negsuc n ∷ []) e = omega arith
extent_small (z ∷ (y ∷ ys)) e = absurd cc

passes_first : (b : Bool) (k : ℕ) (rest : Option ℕ) → or_else (when (not b) k) rest ≡ None → (b ≡ true) × (rest ≡ None)
passes_first true k rest e = (refl, e)
passes_first false k rest e = absurd cc

-- where no extent fails, all are small
pub extents-few : (k : ℕ) (bufs : List (List ℤ)) (qs : List Query) → first_failing (extent_tests k bufs qs) ≡ None → All (λ n. n ≤ 2 ^ 31) (extents_in k bufs qs)
extents-few k bufs [] e = All-nil (λ n. n ≤ 2 ^ 31)
extents-few k bufs (q ∷ qs) e = go (has_extent q) (λ j. extents-few j bufs qs) e
  where
    go : (b : Bool) → ((j : ℕ) → first_failing (extent_tests j bufs qs) ≡ None → All (λ n. n ≤ 2 ^ 31) (extents_in j bufs qs)) → first_failing (cond b ((k, is_extent (nth bufs k)) ∷ extent_tests (suc k) bufs qs) (extent_tests k bufs qs)) ≡ None
        → All (λ n. n ≤ 2 ^ 31) (cond b (nat_of (cell (nth bufs k) 0) ∷ extents_in (suc k) bufs qs) (0 ∷ extents_in k bufs qs))
    go true ih h =
        let p = passes_first (is_extent (nth bufs k)) k (first_failing (extent_tests (suc k) bufs qs)) h in
        All-cons (λ n. n ≤ 2 ^ 31) (nat_of (cell (nth bufs k) 0)) (extents_in (suc k) bufs qs) (extent_small (nth bufs k) p.0) (ih (suc k) p.1)
    go false ih h = All-cons (λ n. n ≤ 2 ^ 31) 0 (extents_in k bufs qs) (omega arith) (ih k h)

-- ---- the buffers from the number f on

next : (f k : ℕ) → suc (f + k) ≡ f + suc k
next f k = omega arith

module _ (f : ℕ) (bufs : List (List ℤ)) where
  pub extents-there : (k : ℕ) (qs : List Query) → extents_in (f + k) bufs qs ≡ extents_in k (drop f bufs) qs
  extents-there k [] = refl
  extents-there k (q ∷ qs) = go (has_extent q) (λ j. extents-there j qs)
    where
      go : (b : Bool) → ((j : ℕ) → extents_in (f + j) bufs qs ≡ extents_in j (drop f bufs) qs) → cond b (nat_of (cell (nth bufs (f + k)) 0) ∷ extents_in (suc (f + k)) bufs qs) (0 ∷ extents_in (f + k) bufs qs)
          ≡ cond b (nat_of (cell (nth (drop f bufs) k) 0) ∷ extents_in (suc k) (drop f bufs) qs) (0 ∷ extents_in k (drop f bufs) qs)
      go true ih = ap₂ (λ (cells : List ℤ) (ns : List ℕ). nat_of (cell cells 0) ∷ ns) (buffer-there f bufs k) (ap (λ j. extents_in j bufs qs) (next f k) ∙ ih (suc k))
      go false ih = ap (λ (ns : List ℕ). 0 ∷ ns) (ih k)

  pub extent-tests-there : (k : ℕ) (qs : List Query) → extent_tests (f + k) bufs qs ≡ map (moved f) (extent_tests k (drop f bufs) qs)
  extent-tests-there k [] = refl
  extent-tests-there k (q ∷ qs) = go (has_extent q) (λ j. extent-tests-there j qs)
    where
      go : (b : Bool) → ((j : ℕ) → extent_tests (f + j) bufs qs ≡ map (moved f) (extent_tests j (drop f bufs) qs)) → cond b ((f + k, is_extent (nth bufs (f + k))) ∷ extent_tests (suc (f + k)) bufs qs) (extent_tests (f + k) bufs qs)
          ≡ map (moved f) (cond b ((k, is_extent (nth (drop f bufs) k)) ∷ extent_tests (suc k) (drop f bufs) qs) (extent_tests k (drop f bufs) qs))
      go true ih =
          ap₂ (λ (cells : List ℤ) (ts : List Test). let t : Test = (f + k, is_extent cells) in t ∷ ts) (buffer-there f bufs k)
          (ap (λ j. extent_tests j bufs qs) (next f k) ∙ ih (suc k))
      go false ih = ih k

  pub table-tests-there : (s : Shape) (k : ℕ) (qs : List Query) (ns : List ℕ) → table_tests s (f + k) bufs qs ns ≡ map (moved f) (table_tests s k (drop f bufs) qs ns)
  table-tests-there s k [] ns = refl
  table-tests-there s k (q ∷ qs) [] = refl
  table-tests-there s k (q ∷ qs) (n ∷ ns) = go (has_table q) (λ j. table-tests-there s j qs ns)
    where
      go : (b : Bool) → ((j : ℕ) → table_tests s (f + j) bufs qs ns ≡ map (moved f) (table_tests s j (drop f bufs) qs ns)) → cond b ((f + k, table_fits s q n (nth bufs (f + k))) ∷ table_tests s (suc (f + k)) bufs qs ns) (table_tests s (f + k) bufs qs ns)
          ≡ map (moved f) (cond b ((k, table_fits s q n (nth (drop f bufs) k)) ∷ table_tests s (suc k) (drop f bufs) qs ns) (table_tests s k (drop f bufs) qs ns))
      go true ih =
          ap₂ (λ (cells : List ℤ) (ts : List Test). let t : Test = (f + k, table_fits s q n cells) in t ∷ ts) (buffer-there f bufs k)
          (ap (λ j. table_tests s j bufs qs ns) (next f k) ∙ ih (suc k))
      go false ih = ih k

  -- the tests of a part, one kind after the other
  pub part-failing : (s : Shape) (p : Part) → first_failing (map (moved f) (part_tests s p (drop f bufs)))
      ≡ or_else (first_failing (map (moved f) (extent_tests 0 (drop f bufs) p.queries)))
      (or_else (first_failing (map (moved f) (table_tests s (extent_count p) (drop f bufs) p.queries (extents_in 0 (drop f bufs) p.queries))))
      (first_failing (map (moved f) (walk p (drop f bufs) 0 (levels_of s (extents_in 0 (drop f bufs) p.queries) p) 1))))
  part-failing s p =
      let ns = extents_in 0 (drop f bufs) p.queries in
      let es = extent_tests 0 (drop f bufs) p.queries in
      let ts = table_tests s (extent_count p) (drop f bufs) p.queries ns in
      let ws = walk p (drop f bufs) 0 (levels_of s ns p) 1 in
      ap first_failing (map-append (moved f) es (ts ++ ws) ∙ ap (λ (us : List Test). map (moved f) es ++ us) (map-append (moved f) ts ws))
      ∙ failing-append (map (moved f) es) (map (moved f) ts ++ map (moved f) ws)
      ∙ ap (λ (o : Option ℕ). or_else (first_failing (map (moved f) es)) o) (failing-append (map (moved f) ts) (map (moved f) ws))

  pub extents-first : (qs : List Query) → extents_in f bufs qs ≡ extents_in 0 (drop f bufs) qs
  extents-first qs = ap (λ j. extents_in j bufs qs) (sym (add-zero f)) ∙ extents-there 0 qs

  extent-tests-first : (qs : List Query) → extent_tests f bufs qs ≡ map (moved f) (extent_tests 0 (drop f bufs) qs)
  extent-tests-first qs = ap (λ j. extent_tests j bufs qs) (sym (add-zero f)) ∙ extent-tests-there 0 qs

  -- the same by the numbers of all buffers
  pub part-by : (s : Shape) (p : Part) → part_failing s f bufs p
      ≡ or_else (first_failing (extent_tests f bufs p.queries))
      (stored_failing s f bufs p (extents_in f bufs p.queries))
  part-by s p =
      part-failing s p
      ∙ ap₂ (λ (a b : Option ℕ). or_else a b) (ap first_failing (sym (extent-tests-first p.queries)))
      (ap₂ (λ (a b : Option ℕ). or_else a b)
      (ap first_failing (sym (table-tests-there s (extent_count p) p.queries (extents_in 0 (drop f bufs) p.queries)))
      ∙ ap (λ (ns : List ℕ). first_failing (table_tests s (f + extent_count p) bufs p.queries ns)) (sym (extents-first p.queries)))
      (ap (levels_failing s f bufs p) (sym (extents-first p.queries))))

-- ---- all parts

-- the tests of the part k and of those behind it
pub parts-failing : (s : Shape) (d : Declaration) (k f : ℕ) (bufs : List (List ℤ)) → k < length d.parts
    → first_failing (all_tests s f (drop k d.parts) (drop f bufs))
    ≡ or_else (first_failing (map (moved f) (part_tests s (part_at d k) (drop f bufs))))
    (first_failing (all_tests s (f + buffer_count (part_at d k)) (drop (suc k) d.parts) (drop (f + buffer_count (part_at d k)) bufs)))
parts-failing s d k f bufs h =
    let p : Part = part_at d k in
    let n : ℕ = f + buffer_count (part_at d k) in
    ap (λ (ps : List Part). first_failing (all_tests s f ps (drop f bufs))) (drop-cons d.parts k _ h)
    ∙ failing-append (map (moved f) (part_tests s (part_at d k) (drop f bufs))) (all_tests s (f + buffer_count (part_at d k)) (drop (suc k) d.parts) (drop (buffer_count (part_at d k)) (drop f bufs)))
    ∙ ap (λ (xs : List (List ℤ)). or_else (first_failing (map (moved f) (part_tests s (part_at d k) (drop f bufs)))) (first_failing (all_tests s (f + buffer_count (part_at d k)) (drop (suc k) d.parts) xs)))
    (drop-drop (buffer_count (part_at d k)) f bufs)

-- ---- where nothing fails

none_first : (a b : Option ℕ) → or_else a b ≡ None → a ≡ None
none_first None b e = refl
none_first (Some x) b e = absurd cc

none_second : (a b : Option ℕ) → or_else a b ≡ None → b ≡ None
none_second None b e = e
none_second (Some x) b e = absurd cc

-- the extents of the part k fit, and all parts behind it
pub fitting-next : (s : Shape) (d : Declaration) (k f : ℕ) (bufs : List (List ℤ)) → k < length d.parts → first_failing (all_tests s f (drop k d.parts) (drop f bufs)) ≡ None
    → (first_failing (extent_tests f bufs (part_at d k).queries) ≡ None)
    × (first_failing (all_tests s (f + buffer_count (part_at d k)) (drop (suc k) d.parts) (drop (f + buffer_count (part_at d k)) bufs)) ≡ None)
fitting-next s d k f bufs h e =
    let rest = first_failing (all_tests s (f + buffer_count (part_at d k)) (drop (suc k) d.parts) (drop (f + buffer_count (part_at d k)) bufs)) in
    let here : part_failing s f bufs (part_at d k) ≡ None = none_first (part_failing s f bufs (part_at d k)) rest (sym (parts-failing s d k f bufs h) ∙ e) in (
      none_first (first_failing (extent_tests f bufs (part_at d k).queries)) (stored_failing s f bufs (part_at d k) (extents_in f bufs (part_at d k).queries)) (sym (part-by f bufs s (part_at d k)) ∙ here),
      none_second (part_failing s f bufs (part_at d k)) rest (sym (parts-failing s d k f bufs h) ∙ e),
    )

none_there : (b : Bool) (o : Option ℕ) (m : ℕ) → is_none (cond b o (Some m)) ≡ true → o ≡ None
none_there true None m e = refl
none_there true (Some x) m e = absurd cc
none_there false o m e = absurd cc

-- all parts of buffers that fit
pub fitting-all : (s : Shape) (d : Declaration) (bufs : List (List ℤ)) → fits s d bufs ≡ true → first_failing (all_tests s 0 d.parts bufs) ≡ None
fitting-all s d bufs e = none_there (eqb (length bufs) (total_count d)) (first_failing (all_tests s 0 d.parts bufs)) (min (length bufs) (total_count d)) e
