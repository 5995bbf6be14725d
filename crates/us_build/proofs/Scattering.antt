-- The steps of a loop that writes a number of each item to the item's position.
use Rattle.std.proofs.Common.{◌≡◌, ℕ, ◌+◌, ◌<◌, ◌≤◌, ◌⊎◌, List, [], ◌∷◌, ◌++◌, map, length, get_or, set, take, replicate, cond, eqb, sym, refl, ap, ◌∙◌, subst, inl, inr, arith, ℤ, pos, AllPairs, eq-eqb}
use Rattle.std.specs.List.{range_with_len}
use Rattle.std.proofs.lemmas.Bool.{cases_eq, ne_eqb}
use Rattle.std.proofs.lemmas.List.{get_or-replicate, get_or-set_other, get_or-set_same, get_or-take, length-replicate, length-set, length-take-le, take_all, take_more}
use Rattle.std.proofs.lemmas.List.FromFn.{fill_by_all}
use Rattle.us_format.proofs.Order.{Mem}
use Rattle.us_format.specs.Buffers.{cell_of}
use Rattle.us_format.specs.Positions.{Row}
use Rattle.us_build.specs.declared.items.Item.{Item}
use Rattle.us_build.proofs.Counts.{Mem-place}

-- the number at x of the first item that stands there, or 0
abbrev pub cell_in : (Item → ℤ) → List Item → ℕ → ℤ
cell_in f [] x = pos 0
cell_in f (y ∷ ys) x = cond (eqb y.at x) (f y) (cell_in f ys x)

-- items that stand at one position have one number
abbrev pub Alike : (Item → ℤ) → List Item → Type 0
Alike f xs = AllPairs (λ x y. x.at ≡ y.at → f x ≡ f y) xs

pub cell-here : (f : Item → ℤ) (xs : List Item) (y : Item) → ((z : Item) → Mem z xs → z.at ≡ y.at → f z ≡ f y) → cell_in f (xs ++ y ∷ []) y.at ≡ f y
cell-here f [] y h = rw (eq-eqb y.at y.at refl) refl
cell-here f (x ∷ xs) y h = go (cases_eq x.at y.at) (cell-here f xs y (λ z m. h z (inr m)))
  where
    go : (x.at ≡ y.at) ⊎ (x.at ≡ y.at → ⊥) → cell_in f (xs ++ y ∷ []) y.at ≡ f y → cond (eqb x.at y.at) (f x) (cell_in f (xs ++ y ∷ []) y.at) ≡ f y
    go (inl e) ih = rw (eq-eqb x.at y.at e) (h x (inl refl) e)
    go (inr n) ih = rw (ne_eqb x.at y.at n) ih

pub cell-elsewhere : (f : Item → ℤ) (xs : List Item) (y : Item) (k : ℕ) → (y.at ≡ k → ⊥) → cell_in f (xs ++ y ∷ []) k ≡ cell_in f xs k
cell-elsewhere f [] y k n = rw (ne_eqb y.at k n) refl
cell-elsewhere f (x ∷ xs) y k n = ap (λ (z : ℤ). cond (eqb x.at k) (f x) z) (cell-elsewhere f xs y k n)

-- what stands after i items
pub record AreCells (f : Item → ℤ) (xs : List Item) (count i : ℕ) (cells : List ℤ) : Type 0 where
  pub long : length cells ≡ count
  pub each : (x : ℕ) → x < count → get_or cells x (pos 0) ≡ cell_in f (take i xs) x

module _ (f : Item → ℤ) (xs : List Item) (count : ℕ) where
  pub cells-none : AreCells f xs count 0 (replicate count (pos 0))
  cells-none = record { long = length-replicate count (pos 0); each = λ x h. get_or-replicate count x (pos 0) (pos 0) h }

  pub cells-next : (cells : List ℤ) (i : ℕ) (d : Item) → Alike f xs → i < length xs → (get_or xs i d).at < count → AreCells f xs count i cells
      → AreCells f xs count (i + 1) (set cells (get_or xs i d).at (f (get_or xs i d)))
  cells-next cells i d alike h l p = record {
    long = length-set cells (get_or xs i d).at (f (get_or xs i d)) ∙ p.long;
    each = λ x b. subst (λ (zs : List Item). get_or (set cells (get_or xs i d).at (f (get_or xs i d))) x (pos 0) ≡ cell_in f zs x) (sym (take_more xs i d h)) (go x b (cases_eq y.at x));
  }
    where
      y : Item
      y = get_or xs i d

      early : (z : Item) → Mem z (take i xs) → z.at ≡ y.at → f z ≡ f y
      early z m e =
          let a = Mem-place z (take i xs) d m in
          let b : a.0 < i = omega (arith, a.1, length-take-le i xs (omega arith)) in
          let c : get_or xs a.0 d ≡ z = sym (get_or-take i xs a.0 d b) ∙ a.2 in
          subst (λ (w : Item). w.at ≡ y.at → f w ≡ f y) c (alike a.0 i d b h) e

      go : (x : ℕ) → x < count → (y.at ≡ x) ⊎ (y.at ≡ x → ⊥) → get_or (set cells y.at (f y)) x (pos 0) ≡ cell_in f (take i xs ++ y ∷ []) x
      go x b (inl e) =
          subst (λ (k : ℕ). get_or (set cells y.at (f y)) k (pos 0) ≡ cell_in f (take i xs ++ y ∷ []) k) e
          (get_or-set_same cells y.at (f y) (pos 0) (omega (arith, p.long)) ∙ sym (cell-here f (take i xs) y early))
      go x b (inr n) =
          get_or-set_other cells y.at x (f y) (pos 0) (λ e. n (sym e)) ∙ p.each x b ∙ sym (cell-elsewhere f (take i xs) y x n)

  pub cells-end : (cells : List ℤ) (i : ℕ) → length xs ≤ i → AreCells f xs count i cells → cells ≡ map (cell_in f xs) (range_with_len 0 count)
  cells-end cells i h p =
      fill_by_all (cell_in f xs) cells count (pos 0) p.long (λ k l. p.each k l ∙ ap (λ (zs : List Item). cell_in f zs k) (take_all i xs h))

-- rows of items, which stand at the items' positions
pub cell-of_items : (row : Item → Row) (g : Row → ℤ) (f : Item → ℤ) (at : Row → ℕ) (xs : List Item) → ((x : Item) → Mem x xs → x.at ≡ at (row x)) → ((x : Item) → f x ≡ g (row x)) → (k : ℕ)
    → cell_in f xs k ≡ cell_of at g (map row xs) k
cell-of_items row g f at [] h e k = refl
cell-of_items row g f at (x ∷ xs) h e k =
    ap (λ (n : ℕ). cond (eqb n k) (f x) (cell_in f xs k)) (h x (inl refl))
    ∙ ap (λ (z : ℤ). cond (eqb (at (row x)) k) z (cell_in f xs k)) (e x)
    ∙ ap (λ (z : ℤ). cond (eqb (at (row x)) k) (g (row x)) z) (cell-of_items row g f at xs (λ y m. h y (inr m)) e k)

-- the cells of rows of the items
pub cells-row : (f : Item → ℤ) (xs : List Item) (count : ℕ) (row : Item → Row) (g : Row → ℤ) (cells : List ℤ) (i : ℕ) → ((x : Item) → x.at ≡ (row x).at) → ((x : Item) → f x ≡ g (row x)) → length xs ≤ i
    → AreCells f xs count i cells → cells ≡ map (cell_of (λ r. r.at) g (map row xs)) (range_with_len 0 count)
cells-row f xs count row g cells i at same h p =
    fill_by_all (cell_of (λ r. r.at) g (map row xs)) cells count (pos 0) p.long
    (λ k l. p.each k l ∙ ap (λ (zs : List Item). cell_in f zs k) (take_all i xs h) ∙ cell-of_items row g f (λ r. r.at) xs (λ x m. at x) same k)
