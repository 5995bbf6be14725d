-- The place of a column, in a pack or in a buffer of its own.
use Rattle.std.proofs.Common.{◌≡◌, ℕ, ◌+◌, ◌<◌, ◌≤◌, List, [], ◌∷◌, map, length, get_or, Bool, true, false, cond, ltb, not, ◌||◌, refl, sym, ap, ◌∙◌, arith, Some, None}
use Rattle.std.specs.List.{list_any, position_or_len, position}
use Rattle.std.proofs.lemmas.Bool.Decides.{nat_tests}
use Rattle.std.proofs.lemmas.List.{get_or-map}
use Rattle.us_format.specs.Lists.{nth}
use Rattle.us_format.specs.Declaration.{Column, Part, same_column}
use Rattle.us_format.specs.Packs.{CellsOf, is_packed, in_pack}
use Rattle.us_format.specs.Reading.{own_place, pack_place, pack_of, begins}
use Rattle.us_climb.specs.declared.layout.ColumnPlace.{ColumnPlace}
use Rattle.us_climb.specs.Layout.{place_in, IsInside}
use Rattle.us_format.proofs.Queries.{found-first}
use Rattle.us_format.proofs.Pieces.{any-Mem, found-at, same_column-true, same_column-self}

-- ---- positions

some_is : (n m : ℕ) (b : Bool) (j : ℕ) → ltb n m ≡ b → cond b (Some n) None ≡ Some j → (n ≡ j) × (j < m)
some_is n m true j e h = let q : n ≡ j = cc in (q, grind (arith, nat_tests))
some_is n m false j e h = absurd cc

none_is : (n m : ℕ) (b : Bool) → ltb n m ≡ b → cond b (Some n) None ≡ None → m ≤ n
none_is n m true e h = absurd cc
none_is n m false e h = grind (arith, nat_tests)

pub position-some : {A : Type 0} (p : A → Bool) (xs : List A) (j : ℕ) → position p xs ≡ Some j → (position_or_len p xs ≡ j) × (j < length xs)
position-some p xs j h = some_is (position_or_len p xs) (length xs) (ltb (position_or_len p xs) (length xs)) j refl h

any_before : {A : Type 0} (p : A → Bool) (xs : List A) → position_or_len p xs < length xs → list_any p xs ≡ true
any_before p [] l = absurd (omega arith)
any_before p (x ∷ xs) l = go (p x) refl (any_before p xs)
  where
    go : (b : Bool) → p x ≡ b → (position_or_len p xs < length xs → list_any p xs ≡ true) → (b || list_any p xs) ≡ true
    go true e ih = refl
    go false e ih = ih (let q : position_or_len p (x ∷ xs) ≡ 1 + position_or_len p xs = ap (λ b. cond (not b) (1 + position_or_len p xs) 0) e in omega (arith, q))

none_before : {A : Type 0} (p : A → Bool) (xs : List A) → length xs ≤ position_or_len p xs → list_any p xs ≡ false
none_before p [] l = refl
none_before p (x ∷ xs) l = go (p x) refl (none_before p xs)
  where
    go : (b : Bool) → p x ≡ b → (length xs ≤ position_or_len p xs → list_any p xs ≡ false) → (b || list_any p xs) ≡ false
    go true e ih = let q : position_or_len p (x ∷ xs) ≡ 0 = ap (λ b. cond (not b) (1 + position_or_len p xs) 0) e in absurd (omega (arith, q))
    go false e ih = ih (let q : position_or_len p (x ∷ xs) ≡ 1 + position_or_len p xs = ap (λ b. cond (not b) (1 + position_or_len p xs) 0) e in omega (arith, q))

pub position-any : {A : Type 0} (p : A → Bool) (xs : List A) (j : ℕ) → position p xs ≡ Some j → list_any p xs ≡ true
position-any p xs j h = let q = position-some p xs j h in any_before p xs (omega (arith, q.0, q.1))

pub position-none : {A : Type 0} (p : A → Bool) (xs : List A) → position p xs ≡ None → list_any p xs ≡ false
position-none p xs h = none_before p xs (none_is (position_or_len p xs) (length xs) (ltb (position_or_len p xs) (length xs)) refl h)

-- ---- places

made : ℕ → ℕ → ℕ → Bool → ColumnPlace
made a b c d = record { buffer = a; column = b; columns = c; begins = d }

four : {a b c d e f : ℕ} {x y : Bool} → a ≡ b → c ≡ d → e ≡ f → x ≡ y
    → ◌≡◌ {A = ColumnPlace} (record { buffer = a; column = c; columns = e; begins = x }) (record { buffer = b; column = d; columns = f; begins = y })
four {a} {b} {c} {d} {e} {f} {x} {y} p q r s = rw (p, q, r, s) refl

pub place-packed : (base : ℕ) (p : Part) (c : Column) (first j y n : ℕ) (b : Bool) → position (in_pack c) p.packs ≡ Some j → first ≡ pack_place p 0
    → y ≡ position_or_len (same_column c) (nth p.packs j) → n ≡ length (nth p.packs j) → b ≡ list_any (begins c) p.packs
    → ◌≡◌ {A = ColumnPlace} (record { buffer = base + first + j; column = y; columns = n; begins = b }) (place_in base p c)
place-packed base p c first j y n b at f ey en eb =
    let there : is_packed p (CellsOf c) ≡ true = position-any (in_pack c) p.packs j at in
    let is : pack_of p c ≡ j = (position-some (in_pack c) p.packs j at).0 in
    rw there
    (four (omega (arith, f, is)) (ey ∙ ap (λ k. position_or_len (same_column c) (nth p.packs k)) (sym is)) (en ∙ ap (λ k. length (nth p.packs k)) (sym is)) eb)

pub place-own : (base : ℕ) (p : Part) (c : Column) (own : ℕ) (b : Bool) → position (in_pack c) p.packs ≡ None → (is_packed p (CellsOf c) ≡ false → own ≡ own_place p (CellsOf c))
    → b ≡ list_any (begins c) p.packs → ◌≡◌ {A = ColumnPlace} (record { buffer = base + own; column = 0; columns = 1; begins = b }) (place_in base p c)
place-own base p c own b at own_is eb =
    let there : is_packed p (CellsOf c) ≡ false = position-none (in_pack c) p.packs at in
    rw there (four (ap (λ k. base + k) (own_is there)) refl refl eb)

-- the pack with a number
pub pack-there : {A : Type 0} (f : A → Column) (packs : List (List A)) (j : ℕ) (pack : List A) → j < length packs → pack ≡ get_or packs j pack → map f pack ≡ nth (map (map f) packs) j
pack-there f packs j pack l is = ap (map f) is ∙ sym (get_or-map (map f) packs j pack [] l)

-- the column is one of those of its buffer
pub place-inside : (base : ℕ) (p : Part) (c : Column) → IsInside (place_in base p c)
place-inside base p c = go (is_packed p (CellsOf c)) refl
  where
    go : (b : Bool) → is_packed p (CellsOf c) ≡ b → IsInside (place_in base p c)
    go true h =
        let first = found-first (in_pack c) p.packs [] h in
        let at = found-at same_column same_column-true same_column-self c (nth p.packs (pack_of p c)) c (any-Mem same_column same_column-true same_column-self c (nth p.packs (pack_of p c)) first.1) in
        rw h at.0
    go false h = rw h (omega arith)
