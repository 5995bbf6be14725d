-- Tables of first parents in the making.
use Rattle.std.proofs.Common.{◌≡◌, ℕ, zero, suc, ◌+◌, ◌-◌, ◌<◌, ◌≤◌, ◌⊎◌, List, length, get_or, replicate, Bool, true, false, not, ◌&&◌, ℤ, pos, negsuc, refl, sym, ap, ap₂, subst, ◌∙◌, inl, inr, arith, Option, Some, None, IfSome}
use Rattle.std.specs.Prelude.{slice_set, nat_lt, nat_le, if◌then◌else◌}
use Rattle.std.specs.List.{range_with_len}
use Rattle.std.proofs.lemmas.Bool.{cases_lt, cases_eq}
use Rattle.std.proofs.lemmas.Bool.Decides.{nat_tests}
use Rattle.std.proofs.lemmas.List.{get_or-set_same, get_or-set_other, length-set, get_or-replicate, length-replicate}
use Rattle.std.proofs.lemmas.List.FromFn.{get_or-range_with_len, length-range_with_len}
use Rattle.us_format.specs.Lists.{cell, first_from}
use Rattle.us_format.specs.Climb.{at_most, is_parent, parent_of}
use Rattle.us_climb.specs.Parents.{AreBelow, AreSkips, IsTable, claimed, entry, none, number, parent_below, place_of}
use Rattle.us_climb.proofs.FirstParents.{last_no_parent}

-- ---- the first of some numbers, one more

abbrev or_last : Option ℕ → Bool → ℕ → Option ℕ
or_last (Some q) b p = Some q
or_last None b p = if b then Some p else None

first_more : (test : ℕ → Bool) (k n p : ℕ) → k + n ≡ p → first_from test k (suc n) ≡ or_last (first_from test k n) (test p) p
first_more test k zero p e = let same : k ≡ p = omega (arith, e) in ap (λ j. if test j then Some j else None) same
first_more test k (suc n) p e = go (test k) (first_more test (suc k) n p (omega (arith, e)))
  where
    go : (b : Bool) → first_from test (suc k) (suc n) ≡ or_last (first_from test (suc k) n) (test p) p
        → (if b then Some k else first_from test (suc k) (suc n)) ≡ or_last (if b then Some k else first_from test (suc k) n) (test p) p
    go true ih = refl
    go false ih = ih

first_bound : (test : ℕ → Bool) (k n q : ℕ) → first_from test k n ≡ Some q → q < k + n
first_bound test k zero q e = absurd cc
first_bound test k (suc n) q e = go (test k) e (first_bound test (suc k) n q)
  where
    go : (b : Bool) → (if b then Some k else first_from test (suc k) n) ≡ Some q → (first_from test (suc k) n ≡ Some q → q < suc k + n) → q < k + suc n
    go true h ih = let same : k ≡ q = cc in omega (arith, same)
    go false h ih = omega (arith, ih h)

-- ---- places of starts

place_low : (count x : ℕ) (z : ℤ) → x < count → nat_le (place_of count z) x ≡ at_most z x
place_low count x (pos a) l = grind (arith, nat_tests)
place_low count x (negsuc a) l = grind (arith, nat_tests)

place_high : (count x : ℕ) (z : ℤ) → x < count → nat_lt x (place_of count z) ≡ not (at_most z x)
place_high count x (pos a) l = grind (arith, nat_tests)
place_high count x (negsuc a) l = grind (arith, nat_tests)

pub place_bound : (count : ℕ) (z : ℤ) → place_of count z ≤ count
place_bound count z = omega arith

-- ---- one parent more

one_more : (o : Option ℕ) (a b : Bool) (p : ℕ) → ((q : ℕ) → o ≡ Some q → q < none) → (if a && (b && nat_le none (number o)) then p else number o) ≡ number (or_last o (a && b) p)
one_more None true true p h = refl
one_more None true false p h = refl
one_more None false b p h = refl
one_more (Some q) a b p h = go a b (nat_le none q) (let l : q < none = h q refl in grind (arith, nat_tests))
  where
    go : (a b c : Bool) → c ≡ false → (if a && (b && c) then p else q) ≡ q
    go true true true e = absurd cc
    go true true false e = refl
    go true false c e = refl
    go false b c e = refl

pub below_more : (starts : List ℤ) (p : ℕ) (before after : List ℕ) → p < none → length after ≡ length before → AreBelow starts p before
    → ((x : ℕ) → x < length before → entry after x ≡ claimed (place_of (length before) (cell starts p)) (place_of (length before) (cell starts (suc p))) p x (entry before x)) → AreBelow starts (suc p) after
below_more starts p before after few len h step x l =
    let there : x < length before = omega (arith, len) in
    let n = length before in
    step x there
    ∙ ap (λ v. claimed (place_of n (cell starts p)) (place_of n (cell starts (suc p))) p x v) (h x there)
    ∙ ap₂ (λ a b. if a && (b && nat_le none (number (parent_below starts p x))) then p else number (parent_below starts p x)) (place_low n x (cell starts p) there) (place_high n x (cell starts (suc p)) there)
    ∙ one_more (parent_below starts p x) (at_most (cell starts p) x) (not (at_most (cell starts (suc p)) x)) p
    (λ q e. let b : q < 0 + p = first_bound (is_parent starts x) 0 p q e in omega arith)
    ∙ ap number (sym (first_more (is_parent starts x) 0 p p (omega arith)))

pub below-start : (starts : List ℤ) (count : ℕ) → AreBelow starts 0 (replicate count none)
below-start starts count x l = get_or-replicate count x none none (omega (arith, length-replicate count none))

-- behind the last start but one no parent comes
pub below-end : (starts : List ℤ) (p : ℕ) (table : List ℕ) → length starts ≤ suc p → p ≤ length starts → AreBelow starts p table → IsTable starts table
below-end starts p table l m h x t = h x t ∙ ap number (go (cases_lt p (length starts)))
  where
    kept : (o : Option ℕ) → o ≡ or_last o false p
    kept None = refl
    kept (Some q) = refl

    go : ((p < length starts) ⊎ (length starts ≤ p)) → parent_below starts p x ≡ parent_of starts x
    go (inl less) =
        let e : suc p ≡ length starts = omega arith in
        kept (parent_below starts p x)
        ∙ ap (λ b. or_last (parent_below starts p x) b p) (sym (last_no_parent starts x p l))
        ∙ sym (first_more (is_parent starts x) 0 p p (omega arith))
        ∙ ap (λ n. first_from (is_parent starts x) 0 n) e
    go (inr more) = let e : p ≡ length starts = omega arith in ap (λ n. first_from (is_parent starts x) 0 n) e

-- ---- skips

pub skips-start : (count : ℕ) → AreSkips (replicate count none) (range_with_len 0 count)
skips-start count = record {
  same = length-range_with_len 0 count ∙ sym (length-replicate count none);
  forth = λ x l. omega (arith, get_or-range_with_len 0 count x 0 (omega (arith, length-replicate count none)));
  within = λ x l. omega (arith, l, get_or-range_with_len 0 count x 0 (omega (arith, length-replicate count none)));
  over = λ x y l a b. absurd (omega (arith, get_or-range_with_len 0 count x 0 (omega (arith, length-replicate count none))));
  moves = λ x l e. absurd (omega (arith, get_or-replicate count x none none (omega (arith, length-replicate count none))));
}

-- what holds of an element behind a store
set_at : (xs : List ℕ) (i v d : ℕ) → i < length xs → (x : ℕ) (P : ℕ → Type 0) → (x ≡ i → P v) → ((x ≡ i → ⊥) → P (get_or xs x d)) → P (get_or (slice_set xs i v) x d)
set_at xs i v d l x P here other = go (cases_eq x i)
  where
    go : ((x ≡ i) ⊎ (x ≡ i → ⊥)) → P (get_or (slice_set xs i v) x d)
    go (inl q) = subst P (sym (ap (λ k. get_or (slice_set xs i v) k d) q ∙ get_or-set_same xs i v d l)) (here q)
    go (inr q) = subst P (sym (get_or-set_other xs i x v d q)) (other q)

module _ (table skips : List ℕ) (h : AreSkips table skips) (place : ℕ) (there : place < length table) where
  -- a skip that is led further
  pub record IsFurther (next far : ℕ) : Type 0 where
    pub behind : next ≤ far
    pub within : far ≤ length table
    pub over : (y : ℕ) → next ≤ y → y < far → entry table y < none

  pub further-more : (next far : ℕ) → next < length skips → far ≡ get_or skips next 0 → IsFurther next far
  further-more next far l f =
      let t : next < length table = omega (arith, h.same) in
      record {
        behind = omega (arith, f, h.forth next t);
        within = omega (arith, f, h.within next t);
        over = λ y a b. h.over next y t a (omega (arith, f));
      }

  pub further-end : (next far : ℕ) → next ≡ get_or skips place 0 → far ≡ next → IsFurther next far
  further-end next far e f = record {
    behind = omega (arith, f);
    within = omega (arith, f, e, h.within place there);
    over = λ y a b. absurd (omega (arith, f));
  }

  module _ (next far : ℕ) (e : next ≡ get_or skips place 0) (f : IsFurther next far) where
    -- all between the place and where it is led further have parents
    pub passed : (y : ℕ) → place ≤ y → y < far → entry table y < none
    passed y a b = go (cases_lt y next)
      where
        go : ((y < next) ⊎ (next ≤ y)) → entry table y < none
        go (inl l) = h.over place y there a (omega (arith, e))
        go (inr l) = f.over y l b

    pub skips-further : AreSkips table (slice_set skips place far)
    skips-further =
        let room : place < length skips = omega (arith, h.same) in
        record {
          same = length-set skips place far ∙ h.same;
          forth = λ x l. set_at skips place far 0 room x (λ s. x ≤ s) (λ q. omega (arith, q, f.behind, e, h.forth place there)) (λ q. h.forth x l);
          within = λ x l. set_at skips place far 0 room x (λ s. s ≤ length table) (λ q. f.within) (λ q. h.within x l);
          over = λ x y l a. set_at skips place far 0 room x (λ s. y < s → entry table y < none) (λ q b. passed y (omega (arith, q)) b) (λ q b. h.over x y l a b);
          moves = λ x l m. set_at skips place far 0 room x (λ s. x < s) (λ q. omega (arith, q, f.behind, e, h.moves place there (subst (λ k. entry table k < none) q m))) (λ q. h.moves x l m);
        }

  -- a place that gets a parent
  pub skips-claimed : (p : ℕ) → p < none → AreSkips (slice_set table place p) (slice_set skips place (place + 1))
  skips-claimed p few =
      let room : place < length skips = omega (arith, h.same) in
      let len : length (slice_set table place p) ≡ length table = length-set table place p in
      let has : (y : ℕ) → ((y ≡ place → ⊥) → entry table y < none) → entry (slice_set table place p) y < none = λ y k. set_at table place p none there y (λ v. v < none) (λ q. few) k in
      record {
        same = length-set skips place (place + 1) ∙ h.same ∙ sym len;
        forth = λ x l. set_at skips place (place + 1) 0 room x (λ s. x ≤ s) (λ q. omega (arith, q)) (λ q. h.forth x (omega (arith, len)));
        within = λ x l. set_at skips place (place + 1) 0 room x (λ s. s ≤ length (slice_set table place p)) (λ q. omega (arith, len)) (λ q. omega (arith, len, h.within x (omega (arith, len))));
        over = λ x y l a. set_at skips place (place + 1) 0 room x (λ s. y < s → entry (slice_set table place p) y < none) (λ q b. has y (λ n. absurd (n (omega (arith, q)))))
            (λ q b. has y (λ n. h.over x y (omega (arith, len)) a b));
        moves = λ x l. set_at table place p none there x (λ v. v < none → x < get_or (slice_set skips place (place + 1)) x 0)
            (λ q m. set_at skips place (place + 1) 0 room x (λ s. x < s) (λ _. omega (arith, q)) (λ n. absurd (n q)))
            (λ q m. set_at skips place (place + 1) 0 room x (λ s. x < s) (λ n. absurd (q n)) (λ _. h.moves x (omega (arith, len)) m));
      }

-- the skips stay skips, and all that was passed from a place on has parents
pub record IsPassed (table skips : List ℕ) (from place : ℕ) : Type 0 where
  pub skips_are : AreSkips table skips
  pub behind : from ≤ place
  pub over : (x : ℕ) → from ≤ x → x < place → x < length table → entry table x < none

-- ---- claiming

-- the places before this one are claimed, the others are as they were
pub record IsClaimedTo (low high p : ℕ) (before now : List ℕ) (place : ℕ) : Type 0 where
  pub same : length now ≡ length before
  pub begun : low ≤ place
  pub front : (x : ℕ) → x < place → x < length before → entry now x ≡ claimed low high p x (entry before x)
  pub back : (x : ℕ) → place ≤ x → entry now x ≡ entry before x

claim_not : (low high p x v : ℕ) → (nat_le low x && (nat_lt x high && nat_le none v)) ≡ false → v ≡ claimed low high p x v
claim_not low high p x v e = sym (ap (λ b. if b then p else v) e)

module _ (low high p : ℕ) where
  -- a place that has a parent keeps it, and so does one outside
  pub keeps : (x v : ℕ) → v < none → v ≡ claimed low high p x v
  keeps x v l = claim_not low high p x v (go (nat_le low x) (nat_lt x high) (nat_le none v) (grind (arith, nat_tests)))
    where
      go : (a b c : Bool) → c ≡ false → (a && (b && c)) ≡ false
      go true true c e = e
      go true false c e = refl
      go false b c e = refl

  pub keeps-below : (x v : ℕ) → x < low → v ≡ claimed low high p x v
  keeps-below x v l = claim_not low high p x v (ap (λ a. a && (nat_lt x high && nat_le none v)) (let e : nat_le low x ≡ false = grind (arith, nat_tests) in e))

  pub keeps-above : (x v : ℕ) → high ≤ x → v ≡ claimed low high p x v
  keeps-above x v l = claim_not low high p x v (go (nat_le low x) (nat_lt x high) (grind (arith, nat_tests)))
    where
      go : (a b : Bool) → b ≡ false → (a && (b && nat_le none v)) ≡ false
      go true true e = absurd cc
      go true false e = refl
      go false b e = refl

  pub takes : (x v : ℕ) → low ≤ x → x < high → none ≤ v → p ≡ claimed low high p x v
  takes x v a b c = sym (go (nat_le low x) (nat_lt x high) (nat_le none v) (grind (arith, nat_tests)) (grind (arith, nat_tests)) (grind (arith, nat_tests)))
    where
      go : (a b c : Bool) → a ≡ true → b ≡ true → c ≡ true → (if a && (b && c) then p else v) ≡ p
      go true true true e f g = refl
      go false b c e f g = absurd cc
      go true false c e f g = absurd cc
      go true true false e f g = absurd cc

  -- from the first free place behind `low` on
  pub claimed-start : (before : List ℕ) (place : ℕ) → low ≤ place → ((x : ℕ) → low ≤ x → x < place → x < length before → entry before x < none) → IsClaimedTo low high p before before place
  claimed-start before place l over = record {
    same = refl;
    begun = l;
    front = λ x a b. go x a b (cases_lt x low);
    back = λ x a. refl;
  }
    where
      go : (x : ℕ) → x < place → x < length before → ((x < low) ⊎ (low ≤ x)) → entry before x ≡ claimed low high p x (entry before x)
      go x a b (inl m) = keeps-below x (entry before x) m
      go x a b (inr m) = keeps x (entry before x) (over x m a b)

  -- a place is claimed, and then the first free one behind it is found
  pub claimed-more : (before now : List ℕ) (place next : ℕ) → IsClaimedTo low high p before now place → place < high → place < length before → none ≤ entry now place → place + 1 ≤ next
      → ((x : ℕ) → place + 1 ≤ x → x < next → x < length (slice_set now place p) → entry (slice_set now place p) x < none) → IsClaimedTo low high p before (slice_set now place p) next
  claimed-more before now place next h below there free behind over = record {
    same = length-set now place p ∙ h.same;
    begun = omega (arith, h.begun);
    front = λ x a b. set_at now place p none room x (λ v. v ≡ claimed low high p x (entry before x)) (λ q. here x q) (λ q. other x a b q (cases_lt x place));
    back = λ x a. get_or-set_other now place x p none (λ q. absurd (omega (arith, q))) ∙ h.back x (omega arith);
  }
    where
      room : place < length now
      room = omega (arith, h.same)

      here : (x : ℕ) → x ≡ place → p ≡ claimed low high p x (entry before x)
      here x q = takes x (entry before x) (omega (arith, q, h.begun)) (omega (arith, q)) (omega (arith, free, ap (entry now) q, h.back x (omega (arith, q))))

      other : (x : ℕ) → x < next → x < length before → (x ≡ place → ⊥) → ((x < place) ⊎ (place ≤ x)) → entry now x ≡ claimed low high p x (entry before x)
      other x a b q (inl l) = h.front x l b
      other x a b q (inr l) =
          let behind_it : place + 1 ≤ x = omega (arith, q) in
          let parent : entry now x < none = subst (λ v. v < none) (get_or-set_other now place x p none q) (over x behind_it a (omega (arith, length-set now place p, h.same))) in
          h.back x (omega arith) ∙ keeps x (entry before x) (subst (λ v. v < none) (h.back x (omega arith)) parent)

  pub claimed-end : (before now : List ℕ) (place : ℕ) → high ≤ place → IsClaimedTo low high p before now place → (x : ℕ) → x < length before → entry now x ≡ claimed low high p x (entry before x)
  claimed-end before now place past h x l = go (cases_lt x place)
    where
      go : ((x < place) ⊎ (place ≤ x)) → entry now x ≡ claimed low high p x (entry before x)
      go (inl m) = h.front x m l
      go (inr m) = h.back x m ∙ keeps-above x (entry before x) (omega arith)

-- claiming has come to this place, which is free or behind the end
pub record IsClaiming (low high p : ℕ) (before now skips : List ℕ) (place : ℕ) : Type 0 where
  pub claimed_to : IsClaimedTo low high p before now place
  pub skips_are : AreSkips now skips
  pub free : place < length now → none ≤ entry now place

-- the table has the first of the first p parents, for so many positions
pub record IsMaking (starts : List ℤ) (count p : ℕ) (table skips : List ℕ) : Type 0 where
  pub short : p ≤ length starts
  pub long : length table ≡ count
  pub skips_are : AreSkips table skips
  pub below : AreBelow starts p table

-- the parent p - 1 was claimed for its range
pub making-more : (starts : List ℤ) (count p : ℕ) (table skips more_table more_skips : List ℕ) (low high : ℕ) → 1 ≤ p → p < length starts → p ≤ none → IsMaking starts count (p - 1) table skips
    → low ≡ place_of count (cell starts (p - 1)) → high ≡ place_of count (cell starts p) → AreSkips more_table more_skips → length more_table ≡ length table
    → ((x : ℕ) → x < length table → entry more_table x ≡ claimed low high (p - 1) x (entry table x)) → IsMaking starts count (p + 1 - 1) more_table more_skips
making-more starts count p table skips more_table more_skips low high one there few h low_is high_is skips_are len step =
    let up : suc (p - 1) ≡ p = omega arith in
    let now : suc (p - 1) ≡ p + 1 - 1 = omega arith in
    record {
      short = omega arith;
      long = len ∙ h.long;
      skips_are = skips_are;
      below =
          subst (λ q. AreBelow starts q more_table) now
          (below_more starts (p - 1) table more_table (omega arith) len h.below
          (λ x b. step x b
          ∙ ap₂ (λ u v. claimed u v (p - 1) x (entry table x)) (low_is ∙ ap (λ n. place_of n (cell starts (p - 1))) (sym h.long))
          (high_is ∙ ap₂ (λ n k. place_of n (cell starts k)) (sym h.long) (sym up))));
    }

-- ---- looking up

-- a number tells its parent, where there are not too many starts
pub parent-told : (starts : List ℤ) (x : ℕ) (o : Option ℕ) → length starts ≤ none → IfSome o (λ p. p < none) → number o ≡ number (parent_of starts x) → o ≡ parent_of starts x
parent-told starts x o few small e = go o (parent_of starts x) small (λ q i. first_bound (is_parent starts x) 0 (length starts) q i) e
  where
    go : (o w : Option ℕ) → IfSome o (λ p. p < none) → ((q : ℕ) → w ≡ Some q → q < 0 + length starts) → number o ≡ number w → o ≡ w
    go None None small b e = refl
    go None (Some q) small b e = absurd (omega (arith, e, b q refl))
    go (Some p) None small b e = absurd (omega (arith, e, small))
    go (Some p) (Some q) small b e = ap Some e
