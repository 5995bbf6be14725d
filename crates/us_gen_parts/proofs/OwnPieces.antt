-- Where the pieces of a level that no pack has stand.
use Rattle.std.proofs.Common.{◌≡◌, ℕ, zero, suc, ◌+◌, ◌<◌, ◌≤◌, List, [], ◌∷◌, ◌++◌, length, drop, false, true, cond, not, sym, refl, ap, subst, ◌∙◌, inl, inr, arith, filter, append_assoc}
use Rattle.std.specs.List.{position_or_len}
use Rattle.std.proofs.Math.Seq.{drop-append_seam, drop-cons}
use Rattle.std.proofs.Math.ListN.{drop_of_length-le}
use Rattle.std.proofs.lemmas.List.{drop-drop, length-append}
use Rattle.std.proofs.lemmas.List.Elements.{filter-append}
use Rattle.us_expr.specs.Tree.{Tree, RowIndex}
use Rattle.us_format.specs.declared.Kind.{Kind}
use Rattle.us_format.specs.declared.Kind.TheVariants as kinds
use Rattle.us_format.specs.Declaration.{LevelColumn, ValueColumn, Part}
use Rattle.us_format.specs.Kinds.{kind}
use Rattle.us_format.specs.Packs.{Piece, PosOf, CellsOf, level_pieces, pieces_from, pieces, own_pieces, is_packed, same_piece}
use Rattle.us_format.specs.Reading.{own_place, extent_count, table_count}
use Rattle.us_format.proofs.Order.{Mem}
use Rattle.us_format.proofs.Collect.{Distinct, unlike}
use Rattle.us_format.proofs.Pieces.{same_piece-true, same_piece-self, pieces-distinct}
use Rattle.us_format.proofs.Shuffled.{distinct-filter}
use Rattle.us_format_loops.specs.Nodes.{has_nodes}
use Rattle.us_judge.specs.Buffers.{is_own}
use Rattle.us_gen_parts.specs.Own.{own_below, own_from}

-- ---- a list in which no piece stands twice

of_drop : (n : ℕ) (x : Piece) (xs rest : List Piece) → drop n xs ≡ x ∷ rest → Mem x xs
of_drop zero x [] rest e = absurd cc
of_drop zero x (y ∷ ys) rest e = let q : y ≡ x = cc in inl q
of_drop (suc n) x [] rest e = absurd cc
of_drop (suc n) x (y ∷ ys) rest e = inr (of_drop n x ys rest e)

at_drop : (n : ℕ) (x : Piece) (xs rest : List Piece) → Distinct xs → drop n xs ≡ x ∷ rest → position_or_len (same_piece x) xs ≡ n
at_drop zero x [] rest d e = absurd cc
at_drop zero x (y ∷ ys) rest d e =
    let q : y ≡ x = cc in
    ap (λ b. cond (not b) (1 + position_or_len (same_piece x) ys) 0) (subst (λ (z : Piece). same_piece x z ≡ true) (sym q) (same_piece-self x))
at_drop (suc n) x [] rest d e = absurd cc
at_drop (suc n) x (y ∷ ys) rest d e =
    let other : same_piece x y ≡ false = unlike same_piece same_piece-true same_piece-self x y (λ q. d.0 (subst (λ (z : Piece). Mem z ys) q (of_drop n x ys rest e))) in
    let ih : position_or_len (same_piece x) ys ≡ n = at_drop n x ys rest d.1 e in
    ap (λ b. cond (not b) (1 + position_or_len (same_piece x) ys) 0) other ∙ omega (arith, ih)

-- ---- the pieces in front of a level

abbrev pieces_below : Part → ℕ → List Piece
pieces_below p zero = []
pieces_below p (suc k) = pieces_below p k ++ level_pieces k (kind p k)

module _ (p : Part) where
  abbrev rest_from : ℕ → List Piece
  rest_from k = pieces_from p k (drop k p.levels)

  own_count : (k : ℕ) → length (filter (is_own p) (pieces_below p k)) ≡ own_below p k
  own_count zero = refl
  own_count (suc k) =
      ap (λ (xs : List Piece). length xs) (filter-append (is_own p) (pieces_below p k) (level_pieces k (kind p k)))
      ∙ length-append (filter (is_own p) (pieces_below p k)) (filter (is_own p) (level_pieces k (kind p k)))
      ∙ ap (λ n. n + length (filter (is_own p) (level_pieces k (kind p k)))) (own_count k)

  split : (k : ℕ) → k ≤ length p.levels → pieces p ≡ pieces_below p k ++ rest_from k
  split zero l = refl
  split (suc k) l =
      split k (omega (arith, l))
      ∙ ap (λ (es : List Tree). pieces_below p k ++ pieces_from p k es) (drop-cons p.levels k RowIndex (omega (arith, l)))
      ∙ sym (append_assoc (pieces_below p k) (level_pieces k (kind p k)) (rest_from (suc k)))

  own_rest : (k : ℕ) → k ≤ length p.levels → drop (own_below p k) (own_pieces p) ≡ filter (is_own p) (rest_from k)
  own_rest k l =
      ap (λ (xs : List Piece). drop (own_below p k) (filter (is_own p) xs)) (split k l)
      ∙ ap (λ (xs : List Piece). drop (own_below p k) xs) (filter-append (is_own p) (pieces_below p k) (rest_from k))
      ∙ ap (λ n. drop n (filter (is_own p) (pieces_below p k) ++ filter (is_own p) (rest_from k))) (sym (own_count k))
      ∙ drop-append_seam (filter (is_own p) (pieces_below p k)) (filter (is_own p) (rest_from k))

  level_rest : (k : ℕ) → k < length p.levels → drop (own_below p k) (own_pieces p) ≡ filter (is_own p) (level_pieces k (kind p k) ++ rest_from (suc k))
  level_rest k l = own_rest k (omega (arith, l)) ∙ ap (λ (es : List Tree). filter (is_own p) (pieces_from p k es)) (drop-cons p.levels k RowIndex l)

  -- the own piece that comes first behind n others
  here : (n : ℕ) (x : Piece) (more : List Piece) → drop n (own_pieces p) ≡ x ∷ more → extent_count p + table_count p + n ≡ own_place p x
  here n x more e =
      ap (λ j. extent_count p + table_count p + j) (sym (at_drop n x (own_pieces p) more (distinct-filter (is_own p) (pieces p) (pieces-distinct p 0 p.levels)) e))

  first_own : (n : ℕ) (x : Piece) (more : List Piece) → is_packed p x ≡ false → drop n (own_pieces p) ≡ filter (is_own p) (x ∷ more) → extent_count p + table_count p + n ≡ own_place p x
  first_own n x more h e = here n x (filter (is_own p) more) (e ∙ ap (λ b. cond (not b) (x ∷ filter (is_own p) more) (filter (is_own p) more)) h)

  next_drop : (n : ℕ) (x : Piece) (xs rest : List Piece) → drop n xs ≡ x ∷ rest → drop (n + 1) xs ≡ rest
  next_drop n x xs rest e = sym (drop-drop 1 n xs) ∙ ap (drop 1) e

  -- ---- a level

  pub starts-here : (k : ℕ) → k < length p.levels → has_nodes (kind p k) ≡ true → own_from p k ≡ own_place p (PosOf k)
  starts-here k l h = go (kind p k) h (level_rest k l)
    where
      go : (kd : Kind) → has_nodes kd ≡ true → drop (own_below p k) (own_pieces p) ≡ filter (is_own p) (level_pieces k kd ++ rest_from (suc k)) → own_from p k ≡ own_place p (PosOf k)
      go kinds.Full h e = absurd cc
      go kinds.Compressed h e = first_own (own_below p k) (PosOf k) (CellsOf (LevelColumn k) ∷ rest_from (suc k)) refl e
      go kinds.Listed h e = first_own (own_below p k) (PosOf k) (CellsOf (LevelColumn k) ∷ rest_from (suc k)) refl e
      go kinds.Slot h e = absurd cc

  behind : (k : ℕ) → is_packed p (CellsOf (LevelColumn k)) ≡ false → drop (own_below p k) (own_pieces p) ≡ PosOf k ∷ filter (is_own p) (CellsOf (LevelColumn k) ∷ rest_from (suc k))
      → own_from p k + 1 ≡ own_place p (CellsOf (LevelColumn k))
  behind k packed e =
      let q : extent_count p + table_count p + (own_below p k + 1) ≡ own_place p (CellsOf (LevelColumn k)) =
      first_own (own_below p k + 1) (CellsOf (LevelColumn k)) (rest_from (suc k)) packed (next_drop (own_below p k) (PosOf k) (own_pieces p) (filter (is_own p) (CellsOf (LevelColumn k) ∷ rest_from (suc k))) e) in
      omega (arith, q)

  pub cells-behind : (k : ℕ) → k < length p.levels → has_nodes (kind p k) ≡ true → is_packed p (CellsOf (LevelColumn k)) ≡ false → own_from p k + 1 ≡ own_place p (CellsOf (LevelColumn k))
  cells-behind k l h packed = go (kind p k) h (level_rest k l)
    where
      go : (kd : Kind) → has_nodes kd ≡ true → drop (own_below p k) (own_pieces p) ≡ filter (is_own p) (level_pieces k kd ++ rest_from (suc k)) → own_from p k + 1 ≡ own_place p (CellsOf (LevelColumn k))
      go kinds.Full h e = absurd cc
      go kinds.Compressed h e = behind k packed e
      go kinds.Listed h e = behind k packed e
      go kinds.Slot h e = absurd cc

  pub slot-here : (k : ℕ) → k < length p.levels → kind p k ≡ kinds.Slot → is_packed p (CellsOf (LevelColumn k)) ≡ false → own_from p k ≡ own_place p (CellsOf (LevelColumn k))
  slot-here k l h packed =
      first_own (own_below p k) (CellsOf (LevelColumn k)) (rest_from (suc k)) packed
      (level_rest k l ∙ ap (λ (kd : Kind). filter (is_own p) (level_pieces k kd ++ rest_from (suc k))) h)

  -- behind all levels
  pub values-here : (k : ℕ) → k ≡ length p.levels → is_packed p (CellsOf ValueColumn) ≡ false → own_from p k ≡ own_place p (CellsOf ValueColumn)
  values-here k e packed =
      first_own (own_below p k) (CellsOf ValueColumn) [] packed
      (own_rest k (omega (arith, e)) ∙ ap (λ (es : List Tree). filter (is_own p) (pieces_from p k es)) (drop_of_length-le p.levels (omega (arith, e))))
