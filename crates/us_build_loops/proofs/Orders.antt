-- Rows in the order of their keys are sorted.
use Rattle.std.specs.List.Sorted.{IsPermutation}
use Rattle.std.specs.List.{range_with_len}
use Rattle.std.proofs.Common.{◌≡◌, ℕ, zero, suc, ◌<◌, ◌⊎◌, List, [], ◌∷◌, map, length, get_or, Bool, true, false, cond, ltb, sym, refl, ap, ap₂, ◌∙◌, subst, inl, inr, arith, ℤ, pos, lt-ltb, le-ltb}
use Rattle.std.proofs.lemmas.Bool.{false≢true, cases_eq, cases_order, or_from, and_right, ne_eqb}
use Rattle.std.proofs.lemmas.List.{get_or-map, length-map}
use Rattle.std.proofs.lemmas.List.FromFn.{fill_by_all}
use Rattle.std.proofs.lemmas.List.Sorted.{IsPermutation-refl, IsPermutation-sym, IsPermutation-trans, IsPermutation-cons, IsPermutation-middle, IsPermutation-map}
use lib.Signed.{lt_z}
use Rattle.us_code.specs.Sort.{before, insert_by, sort_by, ordered}
use Rattle.us_code_laws.proofs.Orders.{ordered_by_keys}
use Rattle.us_format.specs.Kinds.{Level}
use Rattle.us_format.specs.Lists.{cell, head, tail, lower}
use Rattle.us_format.specs.Positions.{Row, rows_of}
use Rattle.us_format.proofs.Order.{lower-irrefl, lower-cases}
use Rattle.us_format.proofs.Climb.{Placed, InRange}
use Rattle.us_format_loops.specs.Laws.{levels_on}
use Rattle.us_build.specs.Items.{IsAscending, key}
use Rattle.us_build.proofs.Counts.{Mem-at}
use Rattle.us_gen_build_laws.specs.Rows.{no_row, row, KeysDiffer, firsts, front, FrontsRise, nodes_within}
use Rattle.us_gen_build_laws.specs.Ready.{AreSorted}
use Rattle.us_gen_build_laws.proofs.Ready.{differ-shuffled}
use Rattle.us_gen_build_laws.proofs.Part.{differ-top, placed-rows, at-top}
use Rattle.us_build_loops.specs.Orders.{HoldKeys, place_of, in_order, OrdersSort}

-- ---- sorting is a permutation

inserted : (less : ℕ → ℕ → Bool) (x : ℕ) (ys : List ℕ) → IsPermutation (x ∷ ys) (insert_by less x ys)
inserted less x [] = IsPermutation-refl (x ∷ [])
inserted less x (y ∷ ys) = case (inserted less x ys) (less x y)
  where
    case : IsPermutation (x ∷ ys) (insert_by less x ys) → (b : Bool) → IsPermutation (x ∷ y ∷ ys) (cond b (x ∷ y ∷ ys) (y ∷ insert_by less x ys))
    case i true = IsPermutation-refl (x ∷ y ∷ ys)
    case i false =
        IsPermutation-trans (x ∷ y ∷ ys) (y ∷ x ∷ ys) (y ∷ insert_by less x ys)
        (IsPermutation-sym (y ∷ x ∷ ys) (x ∷ y ∷ ys) (IsPermutation-middle (y ∷ []) x ys)) (IsPermutation-cons y (x ∷ ys) (insert_by less x ys) i)

sorted-moves : (less : ℕ → ℕ → Bool) (xs : List ℕ) → IsPermutation xs (sort_by less xs)
sorted-moves less [] = IsPermutation-refl []
sorted-moves less (x ∷ xs) =
    IsPermutation-trans (x ∷ xs) (x ∷ sort_by less xs) (insert_by less x (sort_by less xs))
    (IsPermutation-cons x xs (sort_by less xs) (sorted-moves less xs)) (inserted less x (sort_by less xs))

rows-listed : (rows : List Row) → rows ≡ map (row rows) (range_with_len 0 (length rows))
rows-listed rows = fill_by_all (row rows) rows (length rows) no_row refl (λ y h. refl)

pub in_order-moves : (keys : List (List ℤ)) (rows : List Row) → IsPermutation rows (in_order keys rows)
in_order-moves keys rows =
    subst (λ (zs : List Row). IsPermutation zs (in_order keys rows)) (sym (rows-listed rows))
    (IsPermutation-map (row rows) (range_with_len 0 (length rows)) (ordered keys (length rows)) (sorted-moves (before keys) (range_with_len 0 (length rows))))

-- ---- fronts

third : (a b c : Bool) → a ≡ false → b ≡ false → cond a true (cond b false c) ≡ true → c ≡ true
third false false c e f h = h
third false true c e f h = absurd (false≢true (sym f))
third true b c e f h = absurd (false≢true (sym e))

neither : (a b c : Bool) → a ≡ false → b ≡ true → cond a true (cond b false c) ≡ true → ⊥
neither false true c e f h = false≢true h
neither false false c e f h = false≢true f
neither true b c e f h = false≢true (sym e)

-- what comes before has no higher front
pub fronts-before : (keys : List (List ℤ)) (n : ℕ) (rest : ℕ → List ℕ) (x y : ℕ) → HoldKeys keys n rest → x < n → y < n → before keys x y ≡ true → lower (firsts (length keys) (rest y)) (firsts (length keys) (rest x)) ≡ false
fronts-before [] n rest x y h lx ly b = refl
fronts-before (k ∷ ks) n rest x y h lx ly b = go (cases_order p q) (fronts-before ks n (λ z. tail (rest z)) x y h.1 lx ly)
  where
    p : ℕ
    p = head (rest x)

    q : ℕ
    q = head (rest y)

    tells : cond (ltb p q) true (cond (ltb q p) false (before ks x y)) ≡ true
    tells =
        subst (λ (z : ℤ). cond (lt_z (pos p) z) true (cond (lt_z z (pos p)) false (before ks x y)) ≡ true) (h.0 y ly)
        (subst (λ (z : ℤ). cond (lt_z z (cell k y)) true (cond (lt_z (cell k y) z) false (before ks x y)) ≡ true) (h.0 x lx) b)

    go : ((p ≡ q) ⊎ ((p < q) ⊎ (q < p))) → (before ks x y ≡ true → lower (firsts (length ks) (tail (rest y))) (firsts (length ks) (tail (rest x))) ≡ false)
        → lower (q ∷ firsts (length ks) (tail (rest y))) (p ∷ firsts (length ks) (tail (rest x))) ≡ false
    go (inl e) ih = or_from _ _ (le-ltb q p (omega (arith, e))) (and_right _ _ (ih (third (ltb p q) (ltb q p) (before ks x y) (le-ltb p q (omega (arith, e))) (le-ltb q p (omega (arith, e))) tells)))
    go (inr (inl l)) ih = or_from _ _ (le-ltb q p (omega (arith, l))) (rw (ne_eqb q p (λ e. omega (arith, e, l))) refl)
    go (inr (inr l)) ih = absurd (neither (ltb p q) (ltb q p) (before ks x y) (le-ltb p q (omega (arith, l))) (lt-ltb q p l) tells)

-- ---- all coordinates

firsts-all : (ls : List Level) (cs : List ℕ) → InRange ls cs → firsts (length ls) cs ≡ cs
firsts-all [] [] h = refl
firsts-all [] (c ∷ cs) h = absurd h
firsts-all (l ∷ ls) [] h = absurd h
firsts-all (l ∷ ls) (c ∷ cs) h = ap (λ (z : List ℕ). c ∷ z) (firsts-all ls cs h.1)

any-default : (rows : List Row) (i : ℕ) (d e : Row) → i < length rows → get_or rows i d ≡ get_or rows i e
any-default [] i d e h = absurd (omega (arith, h))
any-default (r ∷ rows) zero d e h = refl
any-default (r ∷ rows) (suc i) d e h = any-default rows i d e (omega (arith, h))

pub fronts-ascend : (ls : List Level) (n : ℕ) (rows : List Row) → Placed ls n rows → KeysDiffer rows → FrontsRise (length ls) rows → IsAscending rows
fronts-ascend ls n rows p differ up i j d l h =
    let r : Row = get_or rows i d in
    let s : Row = get_or rows j d in
    let li : i < length rows = omega (arith, l, h) in
    let er : row rows i ≡ r = any-default rows i no_row d li in
    let es : row rows j ≡ s = any-default rows j no_row d h in
    let fr : front (length ls) r ≡ key r = ap (λ (z : List ℕ). r.at ∷ z) (firsts-all ls r.rest (p.in_range r (Mem-at rows i d li))) in
    let fs : front (length ls) s ≡ key s = ap (λ (z : List ℕ). s.at ∷ z) (firsts-all ls s.rest (p.in_range s (Mem-at rows j d h))) in
    let low : lower (key s) (key r) ≡ false =
    ap₂ lower (sym fs) (sym fr) ∙ (ap₂ (λ (a b : Row). lower (front (length ls) a) (front (length ls) b)) (sym es) (sym er) ∙ up i j (omega (arith, l)) h) in
    go (key r) (key s) (differ i j d l h) low (lower-cases (key r) (key s))
  where
    go : (a b : List ℕ) → (a ≡ b → ⊥) → lower b a ≡ false → (lower a b ≡ true) ⊎ ((a ≡ b) ⊎ (lower b a ≡ true)) → lower a b ≡ true
    go a b ne f (inl t) = t
    go a b ne f (inr (inl e)) = absurd (ne e)
    go a b ne f (inr (inr t)) = absurd (false≢true (sym f ∙ t))

-- ---- the rows in order

module _ (keys : List (List ℤ)) (rows : List Row) (hold : HoldKeys keys (length rows) (λ x. (row rows x).rest)) (zeros : (x : ℕ) → x < length rows → (row rows x).at ≡ 0) where
  abbrev n : ℕ
  n = length rows

  pub count : length (in_order keys rows) ≡ n
  count = length-map (ordered keys n) (row rows) ∙ ordered_by_keys.long keys n

  pub turn : (x : ℕ) → x < n → row (in_order keys rows) x ≡ row rows (place_of keys n x)
  turn x h = get_or-map (row rows) (ordered keys n) x 0 no_row (omega (arith, h, ordered_by_keys.long keys n))

  pub within : (x : ℕ) → x < n → place_of keys n x < n
  within x h = ordered_by_keys.in_range keys n x h

  pub fronts-rise : FrontsRise (length keys) (in_order keys rows)
  fronts-rise i j le h =
      let lj : j < n = omega (arith, h, count) in
      let li : i < n = omega (arith, le, lj) in
      ap₂ (λ (a b : Row). lower (front (length keys) a) (front (length keys) b)) (turn j lj) (turn i li) ∙ go li lj (cases_eq i j)
    where
      go : i < n → j < n → (i ≡ j) ⊎ (i ≡ j → ⊥) → lower (front (length keys) (row rows (place_of keys n j))) (front (length keys) (row rows (place_of keys n i))) ≡ false
      go li lj (inl e) =
          subst (λ (z : ℕ). lower (front (length keys) (row rows (place_of keys n z))) (front (length keys) (row rows (place_of keys n i))) ≡ false) e (lower-irrefl (front (length keys) (row rows (place_of keys n i))))
      go li lj (inr ne) =
          or_from _ _ (le-ltb (row rows (place_of keys n j)).at (row rows (place_of keys n i)).at (omega (arith, zeros (place_of keys n i) (within i li), zeros (place_of keys n j) (within j lj))))
          (and_right _ _ (fronts-before keys n (λ x. (row rows x).rest) (place_of keys n i) (place_of keys n j) hold (within i li) (within j lj) (ordered_by_keys.ascending keys n i j (omega (arith, le, ne)) lj)))

-- ---- a part

pub orders-sort : OrdersSort
orders-sort s p m rows keys la im perm hold enough = record {
  permutation = moves;
  sorted = pick enough;
  count = count keys rows hold zeros;
  turn = turn keys rows hold zeros;
  within = within keys rows hold zeros;
}
  where
    zeros : (x : ℕ) → x < length rows → (row rows x).at ≡ 0
    zeros x h = sym (at-top s p m la im rows perm x h)

    moves : IsPermutation (rows_of m s p) (in_order keys rows)
    moves = IsPermutation-trans (rows_of m s p) rows (in_order keys rows) perm (in_order-moves keys rows)

    pick : (length keys ≡ length (levels_on s p m)) ⊎ (nodes_within (length keys) (levels_on s p m) ≡ true) → AreSorted (levels_on s p m) (in_order keys rows)
    pick (inl e) =
        inl (fronts-ascend (levels_on s p m) 1 (in_order keys rows) (placed-rows s p m la im (in_order keys rows) moves) (differ-shuffled (rows_of m s p) (in_order keys rows) moves (differ-top s p m la im))
        (subst (λ (k : ℕ). FrontsRise k (in_order keys rows)) e (fronts-rise keys rows hold zeros)))
    pick (inr w) = inr (length keys, w, fronts-rise keys rows hold zeros)
