-- Two entries with the same coordinates at some levels have the same value at each known expression.
use Rattle.std.specs.Prelude.{slice_get}
use Rattle.std.proofs.Common.{◌≡◌, ℕ, suc, ◌+◌, ◌<◌, ◌⊎◌, List, [], ◌∷◌, map, length, take, true, ◌&&◌, ℤ, pos, negsuc, ◌+ℤ◌, ◌-ℤ◌, ◌≤ℤ◌, sym, refl, ap, ap₂, ◌∙◌, subst, inl, inr, arith, Some}
use Rattle.std.proofs.lemmas.Int.{ints}
use Rattle.std.proofs.lemmas.Bool.{and_parts, or_cases, false≢true}
use Rattle.std.specs.Int.{int_div_euclid, int_rem_euclid}
use Rattle.us_expr.proofs.Floor.{div_rem_same}
use Rattle.us_expr.proofs.Lies.{value_lies}
use Rattle.us_format.proofs.Order.{Mem}
use Rattle.us_format.proofs.Closed.{Closed, known-closed}
use Rattle.us_format.proofs.KnownLaws.{Mem-take, level-member}
use Rattle.us_expr.specs.Range.{LiesIn, PointLiesIn}
use Rattle.us_expr.specs.Tree.{ColIndex, RowIndex, Tree, Variable}
use Rattle.us_expr.specs.Value.{IsWithin}
use Rattle.us_expr.specs.declared.queries.Axis.{Axis}
use Rattle.us_expr.specs.declared.queries.Axis.TheVariants.{Cols, Rows}
use Rattle.us_format.specs.Coordinates.{coordinate, level_range, span, variable_ranges, value_at}
use Rattle.us_format.specs.Declaration.{Enumerate, Part, Query, Reorder, Schedule, SumOf, index_of, axis_of}
use Rattle.us_format.specs.Kinds.{knows_enumerate, tells}
use Rattle.us_format.specs.Known.{expressions, is_known}
use Rattle.us_format.specs.Lists.{nat_of}
use Rattle.us_format.specs.Matrix.{Entry, Shape, index_at}
use Rattle.us_format.specs.Queries.{extents_of, variables_at}

module _ (m : List Entry) (s : Shape) (p : Part) where
  abbrev pub Agree : Entry → Entry → Tree → Type 0
  Agree x y e = value_at m s p x e ≡ value_at m s p y e

  -- what the queries say of two entries
  pub record Tellers (x y : Entry) : Type 0 where
    pub order : (q w : ℕ) (t : Tree) → slice_get p.queries q ≡ Some (Reorder w t) → Agree x y (Variable w) → index_at (axis_of t) x ≡ index_at (axis_of t) y
    pub rows : (q v w : ℕ) (t : Tree) (n : ℕ) → slice_get p.queries q ≡ Some (Schedule v w t n) → Agree x y (Variable v) → Agree x y (Variable w) → index_at (axis_of t) x ≡ index_at (axis_of t) y
    pub enumerate : (q w : ℕ) (e : Tree) → slice_get p.queries q ≡ Some (Enumerate w e) → Agree x y (Variable w) → Agree x y e → x ≡ y

  abbrev pub es : List Tree
  es = expressions p.levels p.queries

  -- an entry's indices and the variables of e lie in their ranges
  abbrev pub InRanges : Entry → Tree → Type 0
  InRanges x e = PointLiesIn s.rows s.cols (variable_ranges s (extents_of m s p) p) (pos x.i) (pos x.j) (variables_at m s p x) e

  -- of a part and its entries
  pub record Sound : Type 0 where
    pub within : (e : Tree) → Mem e es → IsWithin p.names e
    pub names : (x : Entry) → length (variables_at m s p x) ≡ p.names
    pub ranges : (x : Entry) → Mem x m → (e : Tree) → Mem e es → InRanges x e
    pub tellers : (x y : Entry) → Mem x m → Mem y m → Tellers x y
    pub apart : (x y : Entry) → Mem x m → Mem y m → x.i ≡ y.i → x.j ≡ y.j → x ≡ y
    pub row_known : is_known p.levels p.queries (length p.levels) RowIndex ≡ true
    pub col_known : is_known p.levels p.queries (length p.levels) ColIndex ≡ true

  pub index-agrees : (x y : Entry) (a : Axis) → index_at a x ≡ index_at a y → Agree x y (index_of a)
  index-agrees x y Rows e = ap pos e
  index-agrees x y Cols e = ap pos e

  pub agree-closed : (x y : Entry) → Tellers x y → Closed p.queries (IsWithin p.names) (Agree x y)
  agree-closed x y t = record {
    number = λ c v. refl;
    sum = λ a b v e f. ap₂ (λ u v. u +ℤ v) e f;
    difference = λ a b v e f. ap₂ (λ u v. u -ℤ v) e f;
    quotient = λ a k v e. ap (λ u. int_div_euclid u (pos k)) e;
    remainder = λ a k v e. ap (λ u. int_rem_euclid u (pos k)) e;
    left_of_sum = λ e b v h f. left_sum (value_at m s p x e) (value_at m s p x b) (value_at m s p y e) (value_at m s p y b) h f;
    right_of_sum = λ b e v h f. right_sum (value_at m s p x b) (value_at m s p x e) (value_at m s p y b) (value_at m s p y e) h f;
    left_of_difference = λ e b v h f. left_diff (value_at m s p x e) (value_at m s p x b) (value_at m s p y e) (value_at m s p y b) h f;
    right_of_difference = λ a e v f h. right_diff (value_at m s p x a) (value_at m s p x e) (value_at m s p y a) (value_at m s p y e) h f;
    joined = λ e k v u h f. div_rem_same (value_at m s p x e) (value_at m s p y e) k u.0 h f;
    order = λ q w a at v h. index-agrees x y (axis_of a) (t.order q w a at h);
    rows = λ q v w a n at u h k. index-agrees x y (axis_of a) (t.rows q v w a n at h k);
  }
    where
      left_sum : (a b c d : ℤ) → a +ℤ b ≡ c +ℤ d → b ≡ d → a ≡ c
      left_sum a b c d h e = omega (arith, ints)

      right_sum : (a b c d : ℤ) → a +ℤ b ≡ c +ℤ d → a ≡ c → b ≡ d
      right_sum a b c d h e = omega (arith, ints)

      left_diff : (a b c d : ℤ) → a -ℤ b ≡ c -ℤ d → b ≡ d → a ≡ c
      left_diff a b c d h e = omega (arith, ints)

      right_diff : (a b c d : ℤ) → a -ℤ b ≡ c -ℤ d → a ≡ c → b ≡ d
      right_diff a b c d h e = omega (arith, ints)

  -- ---- coordinates and values

  pub lies : Sound → (x : Entry) → Mem x m → (e : Tree) → Mem e es → LiesIn (value_at m s p x e) (level_range s (extents_of m s p) p e)
  lies so x mx e me =
      value_lies s.rows s.cols (variable_ranges s (extents_of m s p) p) (pos x.i) (pos x.j) (variables_at m s p x) e (so.ranges x mx e me)
      (subst (λ (n : ℕ). IsWithin n e) (sym (so.names x)) (so.within e me))

  pub level-lies : Sound → (x : Entry) → Mem x m → (e : Tree) → Mem e p.levels → LiesIn (value_at m s p x e) (level_range s (extents_of m s p) p e)
  level-lies so x mx e me = lies so x mx e (level-member p.levels p.queries e me)

  pub coordinate-below : Sound → (x : Entry) → Mem x m → (e : Tree) → Mem e p.levels → coordinate m s p x e < span (level_range s (extents_of m s p) p e)
  coordinate-below so x mx e me = below (value_at m s p x e) (level_range s (extents_of m s p) p e).lo (level_range s (extents_of m s p) p e).hi (level-lies so x mx e me).low (level-lies so x mx e me).high
    where
      nat-lt : (a b : ℤ) → pos 0 ≤ℤ a → (a +ℤ pos 1) ≤ℤ b → nat_of a < nat_of b
      nat-lt (pos a) (pos b) h k = omega (arith, ints)
      nat-lt (pos a) (negsuc b) h k = absurd (omega (arith, ints))
      nat-lt (negsuc a) b h k = absurd (omega (arith, ints))

      below : (z lo hi : ℤ) → lo ≤ℤ z → z ≤ℤ hi → nat_of (z -ℤ lo) < nat_of ((hi +ℤ pos 1) -ℤ lo)
      below z lo hi h k = nat-lt (z -ℤ lo) ((hi +ℤ pos 1) -ℤ lo) (omega (arith, ints)) (omega (arith, ints))

  pub nat_of-same : (a b : ℤ) → pos 0 ≤ℤ a → pos 0 ≤ℤ b → nat_of a ≡ nat_of b → a ≡ b
  nat_of-same (pos a) (pos b) h k e = ap pos e
  nat_of-same (pos a) (negsuc b) h k e = absurd (omega (arith, ints))
  nat_of-same (negsuc a) b h k e = absurd (omega (arith, ints))

  pub coordinate-tells : Sound → (x y : Entry) → Mem x m → Mem y m → (e : Tree) → Mem e p.levels → coordinate m s p x e ≡ coordinate m s p y e → Agree x y e
  coordinate-tells so x y mx my e me h =
      shifted (value_at m s p x e) (value_at m s p y e) (level_range s (extents_of m s p) p e).lo
      (nat_of-same _ _ (above (value_at m s p x e) (level_range s (extents_of m s p) p e).lo (level-lies so x mx e me).low) (above (value_at m s p y e) (level_range s (extents_of m s p) p e).lo (level-lies so y my e me).low) h)
    where
      above : (z lo : ℤ) → lo ≤ℤ z → pos 0 ≤ℤ (z -ℤ lo)
      above z lo h = omega (arith, ints)

      shifted : (y z lo : ℤ) → y -ℤ lo ≡ z -ℤ lo → y ≡ z
      shifted y z lo h = omega (arith, ints)

  pub same-at : {A : Type 0} (f g : A → ℕ) (xs : List A) → map f xs ≡ map g xs → (x : A) → Mem x xs → f x ≡ g x
  same-at f g [] h x m = absurd m
  same-at {A} f g (y ∷ xs) h x (inl e) = let q : f y ≡ g y = cc in subst (λ (z : A). f z ≡ g z) e q
  same-at f g (y ∷ xs) h x (inr m) = let q : map f xs ≡ map g xs = cc in same-at f g xs q x m

  pub known-agree : Sound → (x y : Entry) → Mem x m → Mem y m → (k : ℕ) → map (coordinate m s p x) (take k p.levels) ≡ map (coordinate m s p y) (take k p.levels)
      → (e : Tree) → is_known p.levels p.queries k e ≡ true → Agree x y e
  known-agree so x y mx my k h e known =
      known-closed (IsWithin p.names) (Agree x y) p.levels p.queries k (agree-closed x y (so.tellers x y mx my))
      (λ l ml vl. coordinate-tells so x y mx my l (Mem-take k l p.levels ml) (same-at (coordinate m s p x) (coordinate m s p y) (take k p.levels) h l ml))
      so.within e known

  pub pos-same : (a b : ℕ) → pos a ≡ pos b → a ≡ b
  pos-same a b h = cc

  pub enumerate-tells : Sound → (x y : Entry) → Mem x m → Mem y m → (k : ℕ) → map (coordinate m s p x) (take k p.levels) ≡ map (coordinate m s p y) (take k p.levels)
      → (n : ℕ) (qs : List Query) → ((j : ℕ) → slice_get qs j ≡ slice_get p.queries (n + j)) → knows_enumerate p k qs ≡ true → x ≡ y
  enumerate-tells so x y mx my k h n [] at e = absurd (false≢true e)
  enumerate-tells so x y mx my k h n (Enumerate v a ∷ qs) at e =
      go (or_cases _ _ e) (enumerate-tells so x y mx my k h (suc n) qs (λ j. at (suc j) ∙ ap (slice_get p.queries) (omega arith)))
    where
      go : (((is_known p.levels p.queries k (Variable v) && is_known p.levels p.queries k a) ≡ true) ⊎ (knows_enumerate p k qs ≡ true)) → (knows_enumerate p k qs ≡ true → x ≡ y) → x ≡ y
      go (inl t) ih =
          (so.tellers x y mx my).enumerate n v a (sym (at 0 ∙ ap (slice_get p.queries) (omega arith)))
          (known-agree so x y mx my k h (Variable v) (and_parts _ _ t).0) (known-agree so x y mx my k h a (and_parts _ _ t).1)
      go (inr t) ih = ih t
  enumerate-tells so x y mx my k h n (SumOf v a ∷ qs) at e = enumerate-tells so x y mx my k h (suc n) qs (λ j. at (suc j) ∙ ap (slice_get p.queries) (omega arith)) e
  enumerate-tells so x y mx my k h n (Reorder v a ∷ qs) at e = enumerate-tells so x y mx my k h (suc n) qs (λ j. at (suc j) ∙ ap (slice_get p.queries) (omega arith)) e
  enumerate-tells so x y mx my k h n (Schedule v w a b ∷ qs) at e = enumerate-tells so x y mx my k h (suc n) qs (λ j. at (suc j) ∙ ap (slice_get p.queries) (omega arith)) e

  -- levels that make the indices known, or an enumerate variable and its argument, tell the entry
  pub tells-entry : Sound → (x y : Entry) → Mem x m → Mem y m → (k : ℕ) → tells p k ≡ true → map (coordinate m s p x) (take k p.levels) ≡ map (coordinate m s p y) (take k p.levels) → x ≡ y
  tells-entry so x y mx my k t h = go (or_cases _ _ t)
    where
      go : (((is_known p.levels p.queries k RowIndex && is_known p.levels p.queries k ColIndex) ≡ true) ⊎ (knows_enumerate p k p.queries ≡ true)) → x ≡ y
      go (inl u) =
          so.apart x y mx my (pos-same x.i y.i (known-agree so x y mx my k h RowIndex (and_parts _ _ u).0)) (pos-same x.j y.j (known-agree so x y mx my k h ColIndex (and_parts _ _ u).1))
      go (inr u) = enumerate-tells so x y mx my k h 0 p.queries (λ j. ap (slice_get p.queries) (omega arith)) u

  -- all coordinates tell the entry
  pub all-tell : Sound → (x y : Entry) → Mem x m → Mem y m → map (coordinate m s p x) (take (length p.levels) p.levels) ≡ map (coordinate m s p y) (take (length p.levels) p.levels) → x ≡ y
  all-tell so x y mx my h =
      so.apart x y mx my (pos-same x.i y.i (known-agree so x y mx my (length p.levels) h RowIndex so.row_known)) (pos-same x.j y.j (known-agree so x y mx my (length p.levels) h ColIndex so.col_known))
