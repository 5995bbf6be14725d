-- Buffers that are within the limit mean few entries.
use Rattle.std.proofs.Common.{◌≡◌, ℕ, zero, suc, ◌+◌, ◌*◌, ◌/◌, ◌<◌, ◌≤◌, ℤ, List, [], ◌∷◌, ◌++◌, map, length, drop, Bool, true, false, cond, not, sym, refl, ap, ◌∙◌, inl, arith, Option, Some, None, Result, Ok, Err}
use Rattle.std.specs.List.{position_or_len, range_with_len, sum_by}
use Rattle.std.proofs.Math.Nat.{div-le_self}
use Rattle.std.proofs.lemmas.List.{length-append, length-map}
use Rattle.std.proofs.lemmas.List.FromFn.{length-map-range_with_len, length-range_with_len}
use Rattle.std.proofs.lemmas.List.Sums.{sum_by-cons}
use Rattle.us_expr.specs.Tree.{Tree}
use Rattle.us_format.specs.declared.Kind.{Kind}
use Rattle.us_format.specs.declared.Kind.TheVariants.{Full, Compressed, Listed, Slot}
use Rattle.us_format.specs.Climb.{values, width}
use Rattle.us_format.specs.Declaration.{ValueColumn, Part, Declaration, same_column}
use Rattle.us_format.specs.Kinds.{kind, levels_from}
use Rattle.us_format.specs.Lists.{cell, nth, then_do}
use Rattle.us_format.specs.Matrix.{Entry, Shape, earlier, put}
use Rattle.us_format.specs.Meaning.{all_positions, collect, collected, entries_of, go_on, Position, meaning, part_values}
use Rattle.us_format.specs.Packs.{CellsOf, Piece, column_from, in_pack, is_packed, level_pieces, own_pieces, pieces, pieces_from, same_piece}
use Rattle.us_format.specs.Reading.{all_contents, all_counts_in, buffer_count, cells_in, contents, fits, limit, own_place, pack_of, pack_place, packed_cells, size_in}
use Rattle.us_format.proofs.Members.{Mem-right}
use Rattle.us_format.proofs.Order.{Mem, Mem-filter}
use Rattle.us_format.proofs.Pieces.{found-at, same_piece-self, same_piece-true}
use Rattle.us_format.proofs.Queries.{found-first}

-- ---- entries

put-long : (e : Entry) (found new : List Entry) → put e found ≡ Some new → length new ≡ length found + 1
put-long e [] new h = let q : e ∷ [] ≡ new = cc in sym (ap length q)
put-long e (y ∷ ys) new h = go (earlier e y) (earlier y e) (put e ys) (put-long e ys) h
  where
    go : (a b : Bool) (r : Option (List Entry)) → ((zs : List Entry) → r ≡ Some zs → length zs ≡ length ys + 1)
        → cond a (Some (e ∷ y ∷ ys)) (cond b (then_do r (λ zs. Some (y ∷ zs))) None) ≡ Some new → length new ≡ suc (length ys) + 1
    go true b r ih q = let w : e ∷ y ∷ ys ≡ new = cc in omega (arith, ap length w)
    go false true None ih q = absurd cc
    go false true (Some zs) ih q = let w : y ∷ zs ≡ new = cc in omega (arith, ap length w, ih zs refl)
    go false false r ih q = absurd cc

-- no more entries than positions are found
collect-few : {K : Type 0} (skip : K → Bool) (read : K → Option Entry) (keys : List K) (found result : List Entry) → collect skip read keys found ≡ Ok result → length result ≤ length keys + length found
collect-few skip read [] found result h = let q : found ≡ result = cc in omega (arith, ap length q)
collect-few {K} skip read (key ∷ keys) found result h = go (skip key) (read key) h (λ new q. collect-few skip read keys new result q)
  where
    go : (b : Bool) (r : Option Entry) → cond b (collect skip read keys found) (go_on key (collect skip read keys) (then_do r (λ e. put e found))) ≡ Ok result
        → ((new : List Entry) → collect skip read keys new ≡ Ok result → length result ≤ length keys + length new) → length result ≤ suc (length keys) + length found
    go true r q ih = omega (arith, ih found q)
    go false None q ih = absurd cc
    go false (Some e) q ih = inner (put e found) refl q
      where
        inner : (w : Option (List Entry)) → put e found ≡ w → go_on key (collect skip read keys) w ≡ Ok result → length result ≤ suc (length keys) + length found
        inner None p q = absurd cc
        inner (Some new) p q = omega (arith, ih new q, put-long e found new p)

-- ---- values

values-are : (s : Shape) (extents : List ℕ) (p : Part) (f : Piece → List ℤ) (k : ℕ) (es : List Tree) → values (levels_from s extents p k es) (map f (pieces_from p k es)) ≡ f (CellsOf ValueColumn)
values-are s extents p f k [] = refl
values-are s extents p f k (e ∷ es) = ap (values (levels_from s extents p (suc k) es)) (behind (kind p k)) ∙ values-are s extents p f (suc k) es
  where
    behind : (kd : Kind) → drop (width kd) (map f (level_pieces k kd ++ pieces_from p (suc k) es)) ≡ map f (pieces_from p (suc k) es)
    behind Full = refl
    behind Compressed = refl
    behind Listed = refl
    behind Slot = refl

pub nth-few : (bufs : List (List ℤ)) (k : ℕ) → length (nth bufs k) ≤ sum_by length bufs
nth-few [] k = none k
  where
    none : (k : ℕ) → length (nth {A = ℤ} [] k) ≤ 0
    none k = omega arith
nth-few (b ∷ bufs) zero = omega (arith, sum_by-cons (λ (l : List ℤ). length l) b bufs)
nth-few (b ∷ bufs) (suc k) = omega (arith, sum_by-cons (λ (l : List ℤ). length l) b bufs, nth-few bufs k)

pub drop-few : (n : ℕ) (bufs : List (List ℤ)) → sum_by length (drop n bufs) ≤ sum_by length bufs
drop-few zero bufs = omega arith
drop-few (suc n) [] = omega arith
drop-few (suc n) (b ∷ bufs) = omega (arith, sum_by-cons (λ (l : List ℤ). length l) b bufs, drop-few n bufs)

-- one of the first n lists, and those behind them
nth-first : (n : ℕ) (bufs : List (List ℤ)) (k : ℕ) → k < n → length (nth bufs k) + sum_by length (drop n bufs) ≤ sum_by length bufs
nth-first zero bufs k h = absurd (omega (arith, h))
nth-first (suc n) [] k h = omega (arith, nth-few [] k)
nth-first (suc n) (b ∷ bufs) zero h = omega (arith, sum_by-cons (λ (l : List ℤ). length l) b bufs, drop-few n bufs)
nth-first (suc n) (b ∷ bufs) (suc k) h = omega (arith, sum_by-cons (λ (l : List ℤ). length l) b bufs, nth-first n bufs k (omega (arith, h)))

column-few : (n y : ℕ) (cells : List ℤ) → length (column_from n y cells) ≤ length cells
column-few n y cells = omega (arith, length-map-range_with_len (λ x. cell cells (x * n + y)) 0 (length cells / n), div-le_self (length cells) n)

value-there : (p : Part) (k : ℕ) (es : List Tree) → Mem (CellsOf ValueColumn) (pieces_from p k es)
value-there p k [] = inl refl
value-there p k (e ∷ es) = Mem-right (CellsOf ValueColumn) (level_pieces k (kind p k)) (pieces_from p (suc k) es) (value-there p (suc k) es)

-- the values stand in a buffer of the part
values-few : (p : Part) (bufs : List (List ℤ)) → length (cells_in p bufs (CellsOf ValueColumn)) + sum_by length (drop (buffer_count p) bufs) ≤ sum_by length bufs
values-few p bufs = go (is_packed p (CellsOf ValueColumn)) refl
  where
    x : Piece
    x = CellsOf ValueColumn

    go : (b : Bool) → is_packed p (CellsOf ValueColumn) ≡ b
        → length (cond b (packed_cells p bufs (pack_of p ValueColumn) ValueColumn) (nth bufs (own_place p (CellsOf ValueColumn)))) + sum_by length (drop (buffer_count p) bufs) ≤ sum_by length bufs
    go false e =
        let f = found-at same_piece same_piece-true same_piece-self x (own_pieces p) x (Mem-filter (λ y. not (is_packed p y)) x (pieces p) (value-there p 0 p.levels) (ap not e)) in
        nth-first (buffer_count p) bufs (own_place p x) (omega (arith, f.0))
    go true e =
        let f = found-first (in_pack ValueColumn) p.packs [] e in
        omega (
          arith,
          column-few (length (nth p.packs (pack_of p ValueColumn))) (position_or_len (same_column ValueColumn) (nth p.packs (pack_of p ValueColumn))) (nth bufs (pack_place p (pack_of p ValueColumn))),
          nth-first (buffer_count p) bufs (pack_place p (pack_of p ValueColumn)) (omega (arith, f.0)),
        )

abbrev place : ℕ → ℕ → Position
place k y = (k, y)

-- as many positions as values
positions-long : (k n : ℕ) → length (map (place k) (range_with_len 0 n)) ≡ n
positions-long k n = length-map (range_with_len 0 n) (place k) ∙ length-range_with_len 0 n

-- no more positions of all parts than cells
positions-few : (s : Shape) (k : ℕ) (ps : List Part) (bufs : List (List ℤ)) → length (all_positions s k (all_contents ps bufs)) ≤ sum_by length bufs
positions-few s k [] bufs = omega arith
positions-few s k (p ∷ ps) bufs =
    let v : part_values s p (contents p bufs) ≡ cells_in p bufs (CellsOf ValueColumn) = values-are s (contents p bufs).extents p (cells_in p bufs) 0 p.levels in
    omega (
      arith,
      length-append (map (place k) (range_with_len 0 (length (part_values s p (contents p bufs))))) (all_positions s (suc k) (all_contents ps (drop (buffer_count p) bufs))),
      positions-long k (length (part_values s p (contents p bufs))),
      ap length v,
      values-few p bufs,
      positions-few s (suc k) ps (drop (buffer_count p) bufs),
    )

-- ---- a declaration

module _ (s : Shape) (d : Declaration) (m : List Entry) (bufs : List (List ℤ)) (small : size_in s d bufs ≤ limit) where
  pub few-cells : sum_by length bufs ≤ limit
  few-cells = omega (arith, small)

  pub few-positions : all_counts_in s d.parts bufs ≤ limit
  few-positions = omega (arith, small)

  pub few-entries : meaning s d bufs ≡ Some m → length m ≤ limit
  few-entries h =
      let q : collected s d bufs ≡ Ok m = found (fits s d bufs) (collected s d bufs) h in
      omega (arith, collect-few _ _ (all_positions s 0 (all_contents d.parts bufs)) [] m q, positions-few s 0 d.parts bufs, small)
    where
      found : (b : Bool) (r : Result (List Entry) Position) → cond b (entries_of r) None ≡ Some m → r ≡ Ok m
      found false r e = absurd cc
      found true (Ok n) e = let w : n ≡ m = cc in ap Ok w
      found true (Err at) e = absurd cc
