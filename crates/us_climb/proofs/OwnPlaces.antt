-- The numbers of the buffers of pieces that no pack has.
use Rattle.std.proofs.Common.{◌≡◌, ℕ, zero, suc, ◌+◌, ◌⊎◌, List, [], ◌∷◌, ◌++◌, length, drop, Bool, true, false, cond, not, refl, sym, ap, subst, ◌∙◌, inl, inr, arith, filter}
use Rattle.std.specs.List.{position_or_len}
use Rattle.std.proofs.lemmas.List.Elements.{filter-append}
use Rattle.std.proofs.Math.Seq.{drop-append_seam}
use Rattle.std.proofs.lemmas.List.{drop-drop}
use Rattle.us_format.specs.declared.Kind.{Kind}
use Rattle.us_format.specs.declared.Kind.TheVariants.{Compressed, Listed, Slot}
use Rattle.us_format.specs.Declaration.{Column, LevelColumn, Part}
use Rattle.us_format.specs.Packs.{Piece, PosOf, CellsOf, level_pieces, is_packed, pieces, own_pieces, same_piece}
use Rattle.us_format.specs.Reading.{own_place, extent_count, table_count}
use Rattle.us_judge.specs.Buffers.{is_own}
use Rattle.us_climb.specs.declared.layout.ColumnPlace.{ColumnPlace}
use Rattle.us_climb.specs.declared.layout.LevelLayout.{LevelLayout}
use Rattle.us_climb.specs.Layout.{place_in, level_layout}
use Rattle.us_climb.specs.Own.{AreOwnFrom}
use Rattle.us_format.proofs.Order.{Mem}
use Rattle.us_format.proofs.Collect.{Distinct, unlike}
use Rattle.us_format.proofs.Pieces.{same_piece-true, same_piece-self, pieces-distinct}

-- ---- members of rests

Mem-of_filter : {A : Type 0} (t : A → Bool) (x : A) (xs : List A) → Mem x (filter t xs) → Mem x xs
Mem-of_filter t x [] h = h
Mem-of_filter t x (y ∷ ys) h = go (t y) h (Mem-of_filter t x ys)
  where
    go : (b : Bool) → Mem x (cond b (y ∷ filter t ys) (filter t ys)) → (Mem x (filter t ys) → Mem x ys) → Mem x (y ∷ ys)
    go true (inl e) ih = inl e
    go true (inr m) ih = inr (ih m)
    go false m ih = inr (ih m)

distinct-filter : {A : Type 0} (t : A → Bool) (xs : List A) → Distinct xs → Distinct (filter t xs)
distinct-filter t [] d = tt
distinct-filter t (x ∷ xs) d = go (t x) (distinct-filter t xs d.1)
  where
    go : (b : Bool) → Distinct (filter t xs) → Distinct (cond b (x ∷ filter t xs) (filter t xs))
    go true ih = ((λ m. d.0 (Mem-of_filter t x xs m)), ih)
    go false ih = ih

Mem-of_drop : {A : Type 0} (n : ℕ) (x : A) (xs rest : List A) → drop n xs ≡ x ∷ rest → Mem x xs
Mem-of_drop zero x [] rest e = absurd cc
Mem-of_drop zero x (y ∷ ys) rest e = let q : y ≡ x = cc in inl q
Mem-of_drop (suc n) x [] rest e = absurd cc
Mem-of_drop (suc n) x (y ∷ ys) rest e = inr (Mem-of_drop n x ys rest e)

at_drop : (n : ℕ) (x : Piece) (xs rest : List Piece) → Distinct xs → drop n xs ≡ x ∷ rest → position_or_len (same_piece x) xs ≡ n
at_drop zero x [] rest d e = absurd cc
at_drop zero x (y ∷ ys) rest d e =
    let q : y ≡ x = cc in
    ap (λ b. cond (not b) (1 + position_or_len (same_piece x) ys) 0) (subst (λ (z : Piece). same_piece x z ≡ true) (sym q) (same_piece-self x))
at_drop (suc n) x [] rest d e = absurd cc
at_drop (suc n) x (y ∷ ys) rest d e =
    let other : same_piece x y ≡ false = unlike same_piece same_piece-true same_piece-self x y (λ q. d.0 (subst (λ (z : Piece). Mem z ys) q (Mem-of_drop n x ys rest e))) in
    let ih : position_or_len (same_piece x) ys ≡ n = at_drop n x ys rest d.1 e in
    ap (λ b. cond (not b) (1 + position_or_len (same_piece x) ys) 0) other ∙ omega (arith, ih)

-- ---- numbers

-- the number of the buffer of a part's own piece j
abbrev pub own_number : Part → ℕ → ℕ
own_number p j = extent_count p + table_count p + j

-- the first of the own pieces from number j on has this number
pub own-here : (p : Part) (n j : ℕ) (x : Piece) (more : List Piece) → n ≡ own_number p j → drop j (own_pieces p) ≡ filter (is_own p) (x ∷ more) → is_packed p x ≡ false → n ≡ own_place p x
own-here p n j x more is rest h =
    is
    ∙ ap (own_number p)
    (sym (at_drop j x (own_pieces p) (filter (is_own p) more) (distinct-filter (is_own p) (pieces p) (pieces-distinct p 0 p.levels))
    (rest ∙ ap (λ b. cond (not b) (x ∷ filter (is_own p) more) (filter (is_own p) more)) h)))

next_drop : {A : Type 0} (n : ℕ) (x : A) (xs rest : List A) → drop n xs ≡ x ∷ rest → drop (n + 1) xs ≡ rest
next_drop n x xs rest e = sym (drop-drop 1 n xs) ∙ ap (drop 1) e

-- behind them the others follow
pub own-next : (p : Part) (n : ℕ) (xs more : List Piece) → drop n (own_pieces p) ≡ filter (is_own p) (xs ++ more) → drop (n + length (filter (is_own p) xs)) (own_pieces p) ≡ filter (is_own p) more
own-next p n xs more rest =
    sym (drop-drop (length (filter (is_own p) xs)) n (own_pieces p))
    ∙ ap (drop (length (filter (is_own p) xs))) (rest ∙ filter-append (is_own p) xs more)
    ∙ drop-append_seam (filter (is_own p) xs) (filter (is_own p) more)

-- ---- levels

pub pos-here : (p : Part) (n j k : ℕ) (c : Column) (more : List Piece) → n ≡ own_number p j → drop j (own_pieces p) ≡ filter (is_own p) (PosOf k ∷ (CellsOf c ∷ more)) → n ≡ own_place p (PosOf k)
pos-here p n j k c more is rest = own-here p n j (PosOf k) (CellsOf c ∷ more) is rest refl

pub cells-behind : (p : Part) (n j k : ℕ) (c : Column) (more : List Piece) → n ≡ own_number p j → drop j (own_pieces p) ≡ filter (is_own p) (PosOf k ∷ (CellsOf c ∷ more)) → is_packed p (CellsOf c) ≡ false
    → n + 1 ≡ own_place p (CellsOf c)
cells-behind p n j k c more is rest h =
    own-here p (n + 1) (j + 1) (CellsOf c) more (omega (arith, is)) (next_drop j (PosOf k) (own_pieces p) (filter (is_own p) (CellsOf c ∷ more)) rest) h

-- the pieces of a level that has starts
pub stored-rest : (p : Part) (n k : ℕ) (kind : Kind) → ((kind ≡ Compressed) ⊎ (kind ≡ Listed)) → (o : AreOwnFrom p n k kind)
    → drop o.number (own_pieces p) ≡ filter (is_own p) (PosOf k ∷ (CellsOf (LevelColumn k) ∷ o.more))
stored-rest p n k kind (inl e) o = o.rest ∙ ap (λ (x : Kind). filter (is_own p) (level_pieces k x ++ o.more)) e
stored-rest p n k kind (inr e) o = o.rest ∙ ap (λ (x : Kind). filter (is_own p) (level_pieces k x ++ o.more)) e

pub stored-cells : (p : Part) (n k : ℕ) (kind : Kind) → ((kind ≡ Compressed) ⊎ (kind ≡ Listed)) → AreOwnFrom p n k kind
    → is_packed p (CellsOf (LevelColumn k)) ≡ false → n + 1 ≡ own_place p (CellsOf (LevelColumn k))
stored-cells p n k kind is o h = cells-behind p n o.number k (LevelColumn k) o.more o.is (stored-rest p n k kind is o) h

pub slot-cells : (p : Part) (n k : ℕ) (kind : Kind) → kind ≡ Slot → AreOwnFrom p n k kind → is_packed p (CellsOf (LevelColumn k)) ≡ false → n ≡ own_place p (CellsOf (LevelColumn k))
slot-cells p n k kind is o h =
    own-here p n o.number (CellsOf (LevelColumn k)) o.more o.is (o.rest ∙ ap (λ (x : Kind). filter (is_own p) (level_pieces k x ++ o.more)) is) h

pub stored-layout : (base : ℕ) (p : Part) (n k size : ℕ) (kind : Kind) (place : ColumnPlace) → ((kind ≡ Compressed) ⊎ (kind ≡ Listed)) → AreOwnFrom p n k kind
    → place ≡ place_in base p (LevelColumn k) → ◌≡◌ {A = LevelLayout} (record { kind = kind; size = size; starts = base + n; cells = place }) (level_layout base p k size kind)
stored-layout base p n k size kind place (inl e) o at =
    rw (e, at, pos-here p n o.number k (LevelColumn k) o.more o.is (stored-rest p n k kind (inl e) o)) refl
stored-layout base p n k size kind place (inr e) o at =
    rw (e, at, pos-here p n o.number k (LevelColumn k) o.more o.is (stored-rest p n k kind (inr e) o)) refl
