-- Packs move cells and lose none: the lengths of packed buffers add up to those of the pieces.
use Rattle.std.proofs.Common.{◌≡◌, ℕ, ◌+◌, List, [], ◌∷◌, ◌++◌, map, length, Bool, true, false, cond, not, ◌||◌, sym, refl, ap, ap₂, ◌∙◌, subst, inl, inr, arith, filter, sum_by}
use Rattle.std.specs.List.{list_any, sum}
use Rattle.std.proofs.lemmas.Bool.{and_parts, false≢true}
use Rattle.std.proofs.lemmas.List.Sums.{sum_by-cons, sum_by-append}
use Rattle.std.proofs.lemmas.List.Folds.{list_any-append}
use Rattle.us_format.specs.Lists.{join}
use Rattle.us_format.specs.Matrix.{Entry, Shape}
use Rattle.us_format.specs.Declaration.{Column, Part, same_column, has_extent, has_table}
use Rattle.us_format.specs.Packs.{Piece, PosOf, CellsOf, pieces, own_pieces, is_packed, in_pack, same_piece, Buffer, buffer_of, interleaved, packed}
use Rattle.us_format.specs.Buffers.{extent_buffer, table_buffer, piece_buffers, part_buffers, part_counts, parts_of, all_buffers}
use Rattle.us_format.specs.Laws.{cells_of, unpacked_size, PackingKeepsSize}
use Rattle.us_format.specs.Rules.{each_once, is_piece, ArePacksLawful}
use Rattle.us_format.proofs.Order.{Mem}
use Rattle.us_format.proofs.Members.{all-Mem}
use Rattle.us_format.proofs.Collect.{Distinct, unlike}
use Rattle.us_format.proofs.Lookup.{not-true}
use Rattle.us_format.proofs.Pieces.{any-Mem, same_piece-true, same_piece-self, pieces-distinct, buffers-of-pieces}
use Rattle.us_format.proofs.Places.{pieces-number}
use Rattle.us_format.proofs.Whole.{Share, packs-lawful}

pub sum-map : {A B : Type 0} (g : B → ℕ) (f : A → B) (xs : List A) → sum_by g (map f xs) ≡ sum_by (λ x. g (f x)) xs
sum-map g f [] = refl
sum-map g f (x ∷ xs) = sum_by-cons g (f x) (map f xs) ∙ ap (λ n. g (f x) + n) (sum-map g f xs) ∙ sym (sum_by-cons (λ x. g (f x)) x xs)

-- the number where the test holds, else 0
abbrev pub where_true : Bool → ℕ → ℕ
where_true b n = cond b n 0

module _ (f : Piece → ℕ) where
  -- the sum over the pieces that pass a test
  abbrev pub sum_where : (Piece → Bool) → List Piece → ℕ
  sum_where t xs = sum_by (λ x. where_true (t x) (f x)) xs

  pub sum-where-none : (t : Piece → Bool) (xs : List Piece) → ((x : Piece) → Mem x xs → t x ≡ false) → sum_where t xs ≡ 0
  sum-where-none t [] h = refl
  sum-where-none t (x ∷ xs) h =
      sum_by-cons (λ x. where_true (t x) (f x)) x xs ∙ ap₂ (λ (a b : ℕ). a + b) (ap (λ b. where_true b (f x)) (h x (inl refl))) (sum-where-none t xs (λ y m. h y (inr m))) ∙ omega arith

  pub sum-where-same : (t u : Piece → Bool) (xs : List Piece) → ((x : Piece) → t x ≡ u x) → sum_where t xs ≡ sum_where u xs
  sum-where-same t u [] h = refl
  sum-where-same t u (x ∷ xs) h =
      sum_by-cons (λ x. where_true (t x) (f x)) x xs ∙ ap₂ (λ (a b : ℕ). a + b) (ap (λ b. where_true b (f x)) (h x)) (sum-where-same t u xs h) ∙ sym (sum_by-cons (λ x. where_true (u x) (f x)) x xs)

  -- either of two tests that don't hold at once
  pub sum-where-either : (t u : Piece → Bool) (xs : List Piece) → ((x : Piece) → t x ≡ true → u x ≡ true → ⊥) → sum_where (λ x. t x || u x) xs ≡ sum_where t xs + sum_where u xs
  sum-where-either t u [] h = refl
  sum-where-either t u (x ∷ xs) h =
      sum_by-cons (λ x. where_true (t x || u x) (f x)) x xs
      ∙ ap₂ (λ (a b : ℕ). a + b) (one (t x) (u x) (f x) (h x)) (sum-where-either t u xs h)
      ∙ regroup (where_true (t x) (f x)) (where_true (u x) (f x)) (sum_where t xs) (sum_where u xs)
      ∙ sym (ap₂ (λ (a b : ℕ). a + b) (sum_by-cons (λ x. where_true (t x) (f x)) x xs) (sum_by-cons (λ x. where_true (u x) (f x)) x xs))
    where
      one : (a b : Bool) (n : ℕ) → (a ≡ true → b ≡ true → ⊥) → where_true (a || b) n ≡ where_true a n + where_true b n
      one true true n never = absurd (never refl refl)
      one true false n never = omega arith
      one false true n never = omega arith
      one false false n never = omega arith

      regroup : (a b c d : ℕ) → (a + b) + (c + d) ≡ (a + c) + (b + d)
      regroup a b c d = omega arith

  -- the pieces that pass and those that don't
  pub sum-where-not : (t : Piece → Bool) (xs : List Piece) → sum_by f (filter (λ x. not (t x)) xs) + sum_where t xs ≡ sum_by f xs
  sum-where-not t [] = refl
  sum-where-not t (x ∷ xs) =
      ap (λ n. sum_by f (filter (λ x. not (t x)) (x ∷ xs)) + n) (sum_by-cons (λ x. where_true (t x) (f x)) x xs) ∙ go (t x) (sum-where-not t xs) ∙ sym (sum_by-cons f x xs)
    where
      go : (b : Bool) → sum_by f (filter (λ x. not (t x)) xs) + sum_where t xs ≡ sum_by f xs
          → sum_by f (cond (not b) (x ∷ filter (λ x. not (t x)) xs) (filter (λ x. not (t x)) xs)) + (where_true b (f x) + sum_where t xs) ≡ f x + sum_by f xs
      go true ih = omega (arith, ih)
      go false ih = omega (arith, ih, sum_by-cons f x (filter (λ x. not (t x)) xs))

  -- one piece that stands in the list
  pub sum-where-one : (y : Piece) (xs : List Piece) → Distinct xs → Mem y xs → sum_where (λ x. same_piece x y) xs ≡ f y
  sum-where-one y [] d h = absurd h
  sum-where-one y (x ∷ xs) d (inl e) =
      sum_by-cons (λ x. where_true (same_piece x y) (f x)) x xs
      ∙ ap₂ (λ (a b : ℕ). a + b) (ap (λ b. where_true b (f x)) (subst (λ (z : Piece). same_piece x z ≡ true) e (same_piece-self x)) ∙ ap f e)
      (sum-where-none (λ x. same_piece x y) xs (λ z m. unlike same_piece same_piece-true same_piece-self z y (λ q. d.0 (subst (λ (w : Piece). Mem w xs) (q ∙ sym e) m))))
      ∙ omega arith
  sum-where-one y (x ∷ xs) d (inr m) =
      sum_by-cons (λ x. where_true (same_piece x y) (f x)) x xs
      ∙ ap₂ (λ (a b : ℕ). a + b) (ap (λ b. where_true b (f x)) (unlike same_piece same_piece-true same_piece-self x y (λ q. d.0 (subst (λ (w : Piece). Mem w xs) (sym q) m)))) (sum-where-one y xs d.1 m)
      ∙ omega arith

  -- the columns of a list in which none stands twice
  pub sum-where-columns : (cs : List Column) (xs : List Piece) → Distinct xs → each_once cs ≡ true → ((c : Column) → Mem c cs → Mem (CellsOf c) xs)
      → sum_where (λ x. list_any (λ c. same_piece x (CellsOf c)) cs) xs ≡ sum_by (λ c. f (CellsOf c)) cs
  sum-where-columns [] xs d once h = sum-where-none (λ x. false) xs (λ x m. refl)
  sum-where-columns (c ∷ cs) xs d once h =
      let o = and_parts (not (in_pack c cs)) (each_once cs) once in
      sum-where-either (λ x. same_piece x (CellsOf c)) (λ x. list_any (λ c. same_piece x (CellsOf c)) cs) xs
      (λ x q r. false≢true (sym (not-true (in_pack c cs) o.0) ∙ subst (λ (z : Piece). list_any (λ d. same_piece z (CellsOf d)) cs ≡ true) (same_piece-true x (CellsOf c) q) r))
      ∙ ap₂ (λ (a b : ℕ). a + b) (sum-where-one (CellsOf c) xs d (h c (inl refl))) (sum-where-columns cs xs d o.1 (λ e m. h e (inr m)))
      ∙ sym (sum_by-cons (λ c. f (CellsOf c)) c cs)

pub sum-join : (g : Column → ℕ) (packs : List (List Column)) → sum_by (λ pack. sum_by g pack) packs ≡ sum_by g (join packs)
sum-join g [] = refl
sum-join g (pack ∷ packs) =
    sum_by-cons (λ pack. sum_by g pack) pack packs ∙ ap (λ n. sum_by g pack + n) (sum-join g packs) ∙ sym (sum_by-append g pack (join packs))

pub packed-by-join : (c : Column) (packs : List (List Column)) → list_any (in_pack c) packs ≡ list_any (same_column c) (join packs)
packed-by-join c [] = refl
packed-by-join c (pack ∷ packs) = ap (λ b. in_pack c pack || b) (packed-by-join c packs) ∙ sym (list_any-append (same_column c) pack (join packs))

pub none-any : (k : ℕ) (cs : List Column) → list_any (λ c. same_piece (PosOf k) (CellsOf c)) cs ≡ false
none-any k [] = refl
none-any k (c ∷ cs) = none-any k cs

pub is-packed-by : (p : Part) (x : Piece) → is_packed p x ≡ list_any (λ c. same_piece x (CellsOf c)) (join p.packs)
is-packed-by p (PosOf k) = sym (none-any k (join p.packs))
is-packed-by p (CellsOf c) = packed-by-join c p.packs

-- a pack is as long as its columns together
pub lengths-of-packs : (g : Column → Buffer) (packs : List (List Column))
    → sum_by (λ pack. (interleaved (map g pack)).len) packs ≡ sum_by (λ pack. sum_by (λ c. (g c).len) pack) packs
lengths-of-packs g [] = refl
lengths-of-packs g (pack ∷ packs) =
    sum_by-cons (λ pack. (interleaved (map g pack)).len) pack packs
    ∙ ap₂ (λ (a b : ℕ). a + b) (sum-map (λ (b : Buffer). b.len) g pack) (lengths-of-packs g packs)
    ∙ sym (sum_by-cons (λ pack. sum_by (λ c. (g c).len) pack) pack packs)

-- the buffers of the pieces are as long together as what they are packed into
pub packed-size : (p : Part) (bs : List Buffer) → ArePacksLawful p → length bs ≡ length (pieces p) → sum_by (λ b. b.len) (packed p bs) ≡ sum_by (λ b. b.len) bs
packed-size p bs lawful l =
    sum_by-append len (map its (own_pieces p)) (map pack_buffer p.packs)
    ∙ ap₂ (λ (a b : ℕ). a + b) (sum-map len its (own_pieces p)) (sum-map len pack_buffer p.packs ∙ lengths-of-packs (λ c. its (CellsOf c)) p.packs ∙ sum-join (λ c. f (CellsOf c)) p.packs ∙ sym columns)
    ∙ sum-where-not f (is_packed p) (pieces p)
    ∙ sym (sum-map len its (pieces p))
    ∙ ap (sum_by len) (buffers-of-pieces (pieces p) bs (pieces-distinct p 0 p.levels) l)
  where
    len : Buffer → ℕ
    len b = b.len

    its : Piece → Buffer
    its x = buffer_of x (pieces p) bs

    f : Piece → ℕ
    f x = (buffer_of x (pieces p) bs).len

    pack_buffer : List Column → Buffer
    pack_buffer pack = interleaved (map (λ c. buffer_of (CellsOf c) (pieces p) bs) pack)

    columns : sum_where f (is_packed p) (pieces p) ≡ sum_by (λ c. f (CellsOf c)) (join p.packs)
    columns =
        sum-where-same f (is_packed p) (λ x. list_any (λ c. same_piece x (CellsOf c)) (join p.packs)) (pieces p) (is-packed-by p)
        ∙ sum-where-columns f (join p.packs) (pieces p) (pieces-distinct p 0 p.levels) lawful.once
        (λ c m. any-Mem same_piece same_piece-true same_piece-self (CellsOf c) (pieces p) (all-Mem (λ c. is_piece p c ≡ true) (join p.packs) c lawful.columns m))

pub part-size : (s : Shape) (p : Part) (m : List Entry) → ArePacksLawful p → cells_of (part_buffers s p m) + sum (part_counts s p m) ≡ unpacked_size s p m
part-size s p m lawful =
    ap (λ n. n + sum (part_counts s p m))
    (sum_by-append len extents (tables ++ packed p (piece_buffers s p m))
    ∙ ap (λ n. cells_of extents + n) (sum_by-append len tables (packed p (piece_buffers s p m)) ∙ ap (λ n. cells_of tables + n) (packed-size p (piece_buffers s p m) lawful (pieces-number s p m lawful []))))
    ∙ regroup (cells_of extents) (cells_of tables) (cells_of (piece_buffers s p m)) (sum (part_counts s p m))
  where
    len : Buffer → ℕ
    len b = b.len

    extents : List Buffer
    extents = map (extent_buffer m s) (filter has_extent p.queries)

    tables : List Buffer
    tables = map (table_buffer m s) (filter has_table p.queries)

    regroup : (a b c d : ℕ) → (a + (b + c)) + d ≡ a + (b + (c + d))
    regroup a b c d = omega arith

pub shares-size : (s : Shape) (ys : List Share) → ((y : Share) → Mem y ys → ArePacksLawful y.0)
    → cells_of (all_buffers s ys) + sum_by (λ x. sum (part_counts s x.0 x.1)) ys ≡ sum_by (λ x. unpacked_size s x.0 x.1) ys
shares-size s [] packs = refl
shares-size s (y ∷ ys) packs =
    ap₂ (λ (a b : ℕ). a + b) (sum_by-append (λ (b : Buffer). b.len) (part_buffers s y.0 y.1) (all_buffers s ys)) (sum_by-cons (λ (x : Share). sum (part_counts s x.0 x.1)) y ys)
    ∙ regroup (cells_of (part_buffers s y.0 y.1)) (cells_of (all_buffers s ys)) (sum (part_counts s y.0 y.1)) (sum_by (λ x. sum (part_counts s x.0 x.1)) ys)
    ∙ ap₂ (λ (a b : ℕ). a + b) (part-size s y.0 y.1 (packs y (inl refl))) (shares-size s ys (λ z m. packs z (inr m)))
    ∙ sym (sum_by-cons (λ (x : Share). unpacked_size s x.0 x.1) y ys)
  where
    regroup : (a b c d : ℕ) → (a + b) + (c + d) ≡ (a + c) + (b + d)
    regroup a b c d = omega arith

pub packing-keeps-size : PackingKeepsSize
packing-keeps-size = record {
  of_pieces = packed-size;
  of_parts = λ s d m law. shares-size s (parts_of s d m) (packs-lawful s d m law);
}
