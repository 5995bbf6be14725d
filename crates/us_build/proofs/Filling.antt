-- The steps of the loop that writes the first position below each position.
use Rattle.std.proofs.Common.{◌≡◌, ℕ, zero, suc, ◌+◌, ◌-◌, ◌<◌, ◌≤◌, ◌⊎◌, List, [], ◌∷◌, ◌++◌, map, length, get_or, replicate, sym, refl, ap, ◌∙◌, inl, inr, arith, ℤ, pos, append_assoc, add-zero, le-leb}
use Rattle.std.specs.List.{range_with_len}
use Rattle.std.proofs.lemmas.Bool.{cases_eq, lt-leb}
use Rattle.std.proofs.lemmas.List.{append-nil, get_or_default, length-append, length-replicate, length_push, replicate_more}
use Rattle.std.proofs.lemmas.List.FromFn.{map-range_with_len_more}
use Rattle.us_build.specs.declared.items.Item.{Item}
use Rattle.us_build.specs.Cells.{first_position}

-- k more values of f, which all are v
pub extended : (f : ℕ → ℤ) (n k : ℕ) (v : ℤ) → ((x : ℕ) → n ≤ x → x < n + k → f x ≡ v) → map f (range_with_len 0 n) ++ replicate k v ≡ map f (range_with_len 0 (n + k))
extended f n zero v h = append-nil (map f (range_with_len 0 n)) ∙ ap (λ (m : ℕ). map f (range_with_len 0 m)) (sym (add-zero n))
extended f n (suc k) v h =
    let one : f n ≡ v = h n (omega arith) (omega arith) in
    let more : map f (range_with_len 0 (n + 1)) ≡ map f (range_with_len 0 n) ++ f n ∷ [] = map-range_with_len_more f 0 n n (omega arith) in
    let sum : (n + 1) + k ≡ n + suc k = omega arith in
    sym (append_assoc (map f (range_with_len 0 n)) (v ∷ []) (replicate k v))
    ∙ ap (λ (z : ℤ). (map f (range_with_len 0 n) ++ z ∷ []) ++ replicate k v) (sym one)
    ∙ ap (λ (l : List ℤ). l ++ replicate k v) (sym more)
    ∙ extended f (n + 1) k v (λ x a b. h x (omega (arith, a)) (omega (arith, b)))
    ∙ ap (λ (m : ℕ). map f (range_with_len 0 m)) sum

-- the item i is the first from x on
pub first-is : (count x : ℕ) (xs : List Item) (i : ℕ) (d : Item) → i < length xs → ((k : ℕ) → k < i → (get_or xs k d).above < x) → x ≤ (get_or xs i d).above → first_position count x xs ≡ (get_or xs i d).at
first-is count x [] i d h low up = absurd (omega arith)
first-is count x (r ∷ rs) zero d h low up = rw (le-leb x r.above up) refl
first-is count x (r ∷ rs) (suc i) d h low up =
    rw (lt-leb x r.above (low 0 (omega arith))) (first-is count x rs i d (omega arith) (λ k l. low (suc k) (omega (arith, l))) up)

pub first-none : (count x : ℕ) (xs : List Item) (d : Item) → ((k : ℕ) → k < length xs → (get_or xs k d).above < x) → first_position count x xs ≡ count
first-none count x [] d low = refl
first-none count x (r ∷ rs) d low = rw (lt-leb x r.above (low 0 (omega arith))) (first-none count x rs d (λ k l. low (suc k) (omega (arith, l))))

-- what stands after i items
pub record AreStarts (count above : ℕ) (xs : List Item) (i : ℕ) (cells : List ℤ) : Type 0 where
  pub cells_are : cells ≡ map (λ x. pos (first_position count x xs)) (range_with_len 0 (length cells))
  pub passed : (k : ℕ) (d : Item) → k < i → (get_or xs k d).above < length cells
  pub few : length cells ≤ above + 1

module _ (count above : ℕ) (xs : List Item) where
  abbrev pub start_at : ℕ → ℤ
  start_at x = pos (first_position count x xs)

  pub starts-none : AreStarts count above xs 0 []
  starts-none = record { cells_are = refl; passed = λ k d h. absurd (omega arith); few = omega arith }

  pub filled : (cells : List ℤ) (end v : ℕ) → cells ≡ map start_at (range_with_len 0 (length cells)) → ((x : ℕ) → length cells ≤ x → x < end → first_position count x xs ≡ v)
      → cells ++ replicate (end - length cells) (pos v) ≡ map start_at (range_with_len 0 (length cells + (end - length cells)))
  filled cells end v e h =
      ap (λ (l : List ℤ). l ++ replicate (end - length cells) (pos v)) e ∙ extended start_at (length cells) (end - length cells) (pos v) (λ x a b. ap pos (h x a (omega (arith, a, b))))

  pub starts-next : (cells new : List ℤ) (i : ℕ) (d : Item) → i < length xs → (get_or xs i d).above < above → AreStarts count above xs i cells
      → new ≡ cells ++ replicate ((get_or xs i d).above + 1 - length cells) (pos (get_or xs i d).at) → AreStarts count above xs (i + 1) new
  starts-next cells new i d h l p e = record {
    cells_are = is ∙ ap (λ (n : ℕ). map start_at (range_with_len 0 n)) (sym len);
    passed = λ k f g. go k f g;
    few = omega (arith, len, p.few, l);
  }
    where
      x : Item
      x = get_or xs i d

      len : length new ≡ length cells + (x.above + 1 - length cells)
      len = ap length e ∙ length-append cells (replicate (x.above + 1 - length cells) (pos x.at)) ∙ ap (λ (n : ℕ). length cells + n) (length-replicate (x.above + 1 - length cells) (pos x.at))

      is : new ≡ map start_at (range_with_len 0 (length cells + (x.above + 1 - length cells)))
      is =
          e
          ∙ filled cells (x.above + 1) x.at p.cells_are
          (λ y a b. first-is count y xs i d h (λ k m. let q : (get_or xs k d).above < length cells = p.passed k d m in omega (arith, q, a)) (omega (arith, b)))

      go : (k : ℕ) (f : Item) → k < i + 1 → (get_or xs k f).above < length new
      go k f g = by (cases_eq k i)
        where
          by : (k ≡ i) ⊎ (k ≡ i → ⊥) → (get_or xs k f).above < length new
          by (inl q) =
              let s : (get_or xs k f).above ≡ x.above = ap (λ (n : ℕ). (get_or xs n f).above) q ∙ ap (λ (y : Item). y.above) (get_or_default xs i f d h) in
              omega (arith, s, len)
          by (inr n) = let q : (get_or xs k f).above < length cells = p.passed k f (omega arith) in omega (arith, q, len)

  pub starts-end : (cells new : List ℤ) (i : ℕ) (d : Item) → i ≡ length xs → AreStarts count above xs i cells → new ≡ cells ++ replicate (above + 1 - length cells) (pos count)
      → new ≡ map start_at (range_with_len 0 (above + 1))
  starts-end cells new i d h p e =
      let len : length cells + (above + 1 - length cells) ≡ above + 1 = omega (arith, p.few) in
      e
      ∙ filled cells (above + 1) count p.cells_are (λ y a b. first-none count y xs d (λ k m. let q : (get_or xs k d).above < length cells = p.passed k d (omega (arith, m, h)) in omega (arith, q, a)))
      ∙ ap (λ (n : ℕ). map start_at (range_with_len 0 n)) len

-- ---- a loop that adds cells of one value

pub record IsFilled (count : ℕ) (value : ℤ) (before cells : List ℤ) : Type 0 where
  pub items : cells ≡ before ++ replicate (length cells - length before) value
  pub low : length before ≤ length cells
  pub high : length cells - length before ≤ count - length before

pub filled-none : (count : ℕ) (value : ℤ) (before : List ℤ) → IsFilled count value before before
filled-none count value before =
    let zero-more : length before - length before ≡ 0 = omega arith in
    record { items = sym (ap (λ (n : ℕ). before ++ replicate n value) zero-more ∙ append-nil before); low = omega arith; high = omega arith }

pub filled-next : (count : ℕ) (value : ℤ) (before cells new : List ℤ) → length cells < count → new ≡ cells ++ value ∷ [] → IsFilled count value before cells → IsFilled count value before new
filled-next count value before cells new l e p =
    let len : length new ≡ length cells + 1 = ap length e ∙ length_push cells value in
    let more : (length cells - length before) + 1 ≡ length new - length before = omega (arith, len, p.low) in
    record {
      items =
          e ∙ ap (λ (l : List ℤ). l ++ value ∷ []) p.items ∙ append_assoc before (replicate (length cells - length before) value) (value ∷ [])
          ∙ ap (λ (l : List ℤ). before ++ l) (replicate_more (length cells - length before) value) ∙ ap (λ (n : ℕ). before ++ replicate n value) more;
      low = omega (arith, len, p.low);
      high = omega (arith, len, p.low, l);
    }

pub filled-end : (count : ℕ) (value : ℤ) (before cells : List ℤ) → count ≤ length cells → IsFilled count value before cells → cells ≡ before ++ replicate (count - length before) value
filled-end count value before cells l p =
    let e : length cells - length before ≡ count - length before = omega (arith, p.high) in
    p.items ∙ ap (λ (n : ℕ). before ++ replicate n value) e
