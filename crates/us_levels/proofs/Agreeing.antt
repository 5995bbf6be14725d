-- Buffers that don't differ so far have the true numbers of positions before a full level.
use Rattle.std.proofs.Common.{◌≡◌, ℕ, suc, ◌+◌, ◌*◌, ◌≤◌, ℤ, List, [], ◌∷◌, ◌++◌, map, length, Bool, true, false, cond, not, ◌&&◌, sym, refl, ap, ◌∙◌, subst, arith, None, inl, inr, append_assoc}
use Rattle.std.specs.Prelude.{nat_lt}
use Rattle.std.specs.List.{filter, position_or_len, sum}
use Rattle.std.proofs.lemmas.Bool.{or_left, or_right, le-ltb}
use Rattle.std.proofs.lemmas.List.{length-append, map-append}
use Rattle.std.proofs.lemmas.List.Elements.{filter-append}
use Rattle.std.proofs.lemmas.List.Sums.{sum_by-cons}
use Rattle.us_expr.specs.Tree.{Tree}
use Rattle.us_format.specs.declared.Kind.{Kind}
use Rattle.us_format.specs.declared.Kind.TheVariants.{Full, Compressed, Listed, Slot}
use Rattle.us_format.specs.Buffers.{buffers_at, crd_buffer, level_buffers, piece_buffers, pos_buffer}
use Rattle.us_format.specs.Coordinates.{level_range, span}
use Rattle.us_format.specs.Declaration.{LevelColumn, Part}
use Rattle.us_format.specs.Kinds.{Level, kind, levels_from}
use Rattle.us_format.specs.Lists.{nth}
use Rattle.us_format.specs.Matrix.{Entry, Shape}
use Rattle.us_format.specs.Packs.{Buffer, CellsOf, Piece, PosOf, is_packed, level_pieces, own_pieces, pieces, pieces_from, same_piece, written}
use Rattle.us_format.specs.Positions.{Row, count_below, down, nodes}
use Rattle.us_format.specs.Queries.{extents_of}
use Rattle.us_format.specs.Reading.{cells_in, count_in, counts_in, extent_count, limit, own_place, packed_cells, pack_of, table_count}
use Rattle.us_format.proofs.Climb.{length-written}
use Rattle.us_format.proofs.Collect.{Distinct, unlike}
use Rattle.us_format.proofs.Members.{Mem-right}
use Rattle.us_format.proofs.Order.{Mem}
use Rattle.us_format.proofs.Pieces.{pieces-distinct, same_piece-self, same_piece-true}
use Rattle.us_format.proofs.Shuffled.{Mem-of_filter}
use Rattle.us_judge.proofs.Accepted.{KeepsRules}
use Rattle.us_build.specs.Ways.{is_first_long, is_full}
use Rattle.us_levels.specs.Comparable.{has_full}
use Rattle.us_levels.specs.Lists.{lists_difference, own_lists}
use Rattle.us_levels.proofs.Behind.{compressed-own, listed-loose, none-full}
use Rattle.us_levels.proofs.Owning.{is_own, own-apart, own-long}
use Rattle.us_levels.proofs.Unlike.{differences-append, differences-first, differences-rest, none-second}

-- ---- the place of a piece

distinct-apart : (xs ys : List Piece) (x : Piece) → Distinct (xs ++ ys) → Mem x xs → Mem x ys → ⊥
distinct-apart [] ys x d m n = absurd m
distinct-apart (y ∷ xs) ys x d (inl e) n = d.0 (subst (λ (z : Piece). Mem z (xs ++ ys)) (sym e) (Mem-right x xs ys n))
distinct-apart (y ∷ xs) ys x d (inr m) n = distinct-apart xs ys x d.1 m n

place-behind : (x : Piece) (front rest : List Piece) → (Mem x front → ⊥) → position_or_len (same_piece x) (front ++ rest) ≡ length front + position_or_len (same_piece x) rest
place-behind x [] rest h = omega arith
place-behind x (y ∷ front) rest h =
    ap (λ (b : Bool). cond (not b) (1 + position_or_len (same_piece x) (front ++ rest)) 0) (unlike same_piece same_piece-true same_piece-self x y (λ e. h (inl (sym e))))
    ∙ omega (arith, place-behind x front rest (λ m. h (inr m)))

-- the lists held behind those of the queries of a part are the buffers from the number k on
pub record StandFrom (p : Part) (k : ℕ) (held bufs : List (List ℤ)) : Type 0 where
  pub at : (j : ℕ) → nth held (extent_count p + table_count p + j) ≡ nth bufs (k + j)

-- the coordinates of a level that no pack has stand in the buffer that doesn't differ from them
own-same : (p : Part) (base : ℕ) (before more : List Piece) (k : ℕ) (lists bufs held : List (List ℤ)) (starts coords : List ℤ) → StandFrom p base held bufs → before ++ (PosOf k ∷ CellsOf (LevelColumn k) ∷ more) ≡ pieces p
    → length before ≡ length lists → is_packed p (CellsOf (LevelColumn k)) ≡ false → lists_difference base (own_lists p (pieces p) (lists ++ starts ∷ coords ∷ [])) bufs ≡ None
    → cells_in p held (CellsOf (LevelColumn k)) ≡ coords
own-same p base before more k lists bufs held starts coords stand split long unpacked same =
    ap (λ (b : Bool). cond b (packed_cells p held (pack_of p (LevelColumn k)) (LevelColumn k)) (nth held (own_place p x))) unpacked
    ∙ stand.at (position_or_len (same_piece x) (own_pieces p))
    ∙ ap (nth bufs) place
    ∙ differences-first (suc (base + length own_before)) coords (own_lists p more []) bufs (differences-rest (base + length own_before) starts (coords ∷ own_lists p more []) bufs behind)
  where
    x : Piece
    x = CellsOf (LevelColumn k)

    own_before : List (List ℤ)
    own_before = own_lists p before lists

    lists-are : own_lists p (pieces p) (lists ++ starts ∷ coords ∷ []) ≡ own_lists p before lists ++ starts ∷ coords ∷ own_lists p more []
    lists-are =
        ap (λ (xs : List Piece). own_lists p xs (lists ++ starts ∷ coords ∷ [])) (sym split)
        ∙ own-apart p before (PosOf k ∷ CellsOf (LevelColumn k) ∷ more) lists (starts ∷ coords ∷ []) long
        ∙ ap (λ (b : Bool). own_lists p before lists ++ starts ∷ cond b (own_lists p more []) (coords ∷ own_lists p more [])) unpacked

    behind : lists_difference (base + length own_before) (starts ∷ coords ∷ own_lists p more []) bufs ≡ None
    behind =
        none-second (lists_difference base own_before bufs) _
        (sym (differences-append base own_before (starts ∷ coords ∷ own_lists p more []) bufs) ∙ ap (λ (ls : List (List ℤ)). lists_difference base ls bufs) (sym lists-are) ∙ same)

    apart : Mem x (filter (is_own p) before) → ⊥
    apart m =
        distinct-apart before (PosOf k ∷ CellsOf (LevelColumn k) ∷ more) x (subst Distinct (sym split) (pieces-distinct p 0 p.levels)) (Mem-of_filter (is_own p) x before m).0 (inr (inl refl))

    own-are : own_pieces p ≡ filter (is_own p) before ++ PosOf k ∷ x ∷ filter (is_own p) more
    own-are =
        ap (filter (is_own p)) (sym split)
        ∙ filter-append (is_own p) before (PosOf k ∷ CellsOf (LevelColumn k) ∷ more)
        ∙ ap (λ (b : Bool). filter (is_own p) before ++ PosOf k ∷ cond (not b) (CellsOf (LevelColumn k) ∷ filter (is_own p) more) (filter (is_own p) more)) unpacked

    second : position_or_len (same_piece x) (PosOf k ∷ x ∷ filter (is_own p) more) ≡ 1
    second = ap (λ (b : Bool). 1 + cond (not b) (1 + position_or_len (same_piece x) (filter (is_own p) more)) 0) (same_piece-self (CellsOf (LevelColumn k)))

    position : position_or_len (same_piece x) (own_pieces p) ≡ length (filter (is_own p) before) + 1
    position =
        ap (position_or_len (same_piece x)) own-are ∙ place-behind x (filter (is_own p) before) (PosOf k ∷ x ∷ filter (is_own p) more) apart
        ∙ ap (λ (n : ℕ). length (filter (is_own p) before) + n) second

    place : base + position_or_len (same_piece x) (own_pieces p) ≡ suc (base + length own_before)
    place = omega (arith, position, own-long p before lists long)

-- ---- the levels that are left

-- the levels es of a part, numbered from k on, with the extents of a matrix
abbrev pub levels_left : Shape → Part → List Entry → ℕ → List Tree → List Level
levels_left s p m k es = levels_from s (extents_of m s p) p k es

abbrev pub size_of : Shape → Part → List Entry → Tree → ℕ
size_of s p m e = span (level_range s (extents_of m s p) p e)

module _ (s : Shape) (p : Part) (m : List Entry) (bufs held : List (List ℤ)) (base : ℕ) where
  -- what stands before the levels es, the first of which is level k: the lists of the pieces before, none of which differs; and where a full level is left, the positions that are read off the buffers are few
  pub record Agrees (k : ℕ) (es : List Tree) (before : List Piece) (n : ℕ) (rows : List Row) (lists : List (List ℤ)) : Type 0 where
    pub depth : k + length es ≡ length p.levels
    pub split : before ++ pieces_from p k es ≡ pieces p
    pub long : length before ≡ length lists
    pub whole : lists ++ map written (level_buffers (levels_left s p m k es) n rows) ≡ map written (piece_buffers s p m)
    pub same : lists_difference base (own_lists p (pieces p) lists) bufs ≡ None
    pub counts : has_full (levels_left s p m k es) ≡ true → sum (counts_in p held k (levels_left s p m k es) n) ≤ limit

  abbrev level : Kind → ℕ → Level
  level kd size = record { kind = kd; size = size }

  short-by : (kd : Kind) (size n : ℕ) → (kd ≡ Full → n * size ≤ limit) → (is_full kd && nat_lt limit (n * size)) ≡ false
  short-by Full size n h = le-ltb limit (n * size) (h refl)
  short-by Compressed size n h = refl
  short-by Listed size n h = refl
  short-by Slot size n h = refl

  module _ (k : ℕ) (e : Tree) (es : List Tree) (before : List Piece) (n : ℕ) (rows : List Row) (lists : List (List ℤ)) (a : Agrees k (e ∷ es) before n rows lists) where
    rest : List ℕ
    rest = counts_in p held (suc k) (levels_left s p m (suc k) es) (count_in p held k (level (kind p k) (size_of s p m e)) n)

    counted : has_full (levels_left s p m k (e ∷ es)) ≡ true → count_in p held k (level (kind p k) (size_of s p m e)) n + sum rest ≤ limit
    unfolding rest
    counted h =
        omega (arith, a.counts h, sum_by-cons (λ (x : ℕ). x) (count_in p held k (level (kind p k) (size_of s p m e)) n) (counts_in p held (suc k) (levels_left s p m (suc k) es) (count_in p held k (level (kind p k) (size_of s p m e)) n)))

    -- a full level is not too long
    pub agrees-short : is_first_long (levels_left s p m k (e ∷ es)) n ≡ false
    agrees-short =
        short-by (kind p k) (size_of s p m e) n
        (λ full.
        let c : count_in p held k (level (kind p k) (size_of s p m e)) n ≡ n * size_of s p m e = ap (λ (kd : Kind). count_in p held k (level kd (size_of s p m e)) n) full in
        let h : has_full (levels_left s p m k (e ∷ es)) ≡ true = or_left (is_full (kind p k)) (has_full (levels_left s p m (suc k) es)) (ap is_full full) in
        omega (arith, counted h, c))

    abbrev new_lists : Kind → List (List ℤ)
    new_lists kd = lists ++ map written (buffers_at kd (size_of s p m e) n rows)

    same-count : (kd : Kind) → KeepsRules p → StandFrom p base held bufs → kind p k ≡ kd → lists_difference base (own_lists p (pieces p) (new_lists kd)) bufs ≡ None → has_full (levels_left s p m (suc k) es) ≡ true
        → count_in p held k (level kd (size_of s p m e)) n ≡ count_below kd (size_of s p m e) n rows
    same-count Full kept stand q d h = refl
    same-count Slot kept stand q d h = refl
    same-count Listed kept stand q d h = absurd (none-full p kept s (extents_of m s p) k es (omega (arith, a.depth)) (listed-loose p k q) h)
    same-count Compressed kept stand q d h =
        let split : before ++ (PosOf k ∷ CellsOf (LevelColumn k) ∷ pieces_from p (suc k) es) ≡ pieces p = subst (λ (kd : Kind). before ++ (level_pieces k kd ++ pieces_from p (suc k) es) ≡ pieces p) q a.split in
        let own : is_packed p (CellsOf (LevelColumn k)) ≡ false = compressed-own p kept s (extents_of m s p) k es (omega (arith, a.depth)) q h in
        ap length (own-same p base before (pieces_from p (suc k) es) k lists bufs held (written (pos_buffer (nodes Compressed rows) n)) (written (crd_buffer Compressed (size_of s p m e) n rows)) stand split a.long own d)
        ∙ length-written (crd_buffer Compressed (size_of s p m e) n rows)

    as-many : (kd : Kind) → length (level_pieces k kd) ≡ length (map written (buffers_at kd (size_of s p m e) n rows))
    as-many Full = refl
    as-many Compressed = refl
    as-many Listed = refl
    as-many Slot = refl

    -- one level down, if the new lists don't differ
    pub agrees-next : KeepsRules p → StandFrom p base held bufs → lists_difference base (own_lists p (pieces p) (lists ++ map written (buffers_at (kind p k) (size_of s p m e) n rows))) bufs ≡ None
        → Agrees (suc k) es (before ++ level_pieces k (kind p k)) (count_below (kind p k) (size_of s p m e) n rows) (down (kind p k) (size_of s p m e) rows) (lists ++ map written (buffers_at (kind p k) (size_of s p m e) n rows))
    unfolding rest
    agrees-next kept stand d = record {
      depth = omega (arith, a.depth);
      split = append_assoc before (level_pieces k (kind p k)) (pieces_from p (suc k) es) ∙ a.split;
      long =
          length-append before (level_pieces k (kind p k))
          ∙ omega (arith, a.long, as-many (kind p k), length-append lists (map written (buffers_at (kind p k) (size_of s p m e) n rows)));
      whole =
          append_assoc lists (map written (buffers_at (kind p k) (size_of s p m e) n rows)) (map written more)
          ∙ ap (λ (l : List (List ℤ)). lists ++ l) (sym (map-append written (buffers_at (kind p k) (size_of s p m e) n rows) more))
          ∙ a.whole;
      same = d;
      counts = λ h.
          let c : count_in p held k (level (kind p k) (size_of s p m e)) n ≡ count_below (kind p k) (size_of s p m e) n rows = same-count (kind p k) kept stand refl d h in
          let t : count_in p held k (level (kind p k) (size_of s p m e)) n + sum rest ≤ limit = counted (or_right (is_full (kind p k)) (has_full (levels_left s p m (suc k) es)) h) in
          subst (λ (x : ℕ). sum (counts_in p held (suc k) (levels_left s p m (suc k) es) x) ≤ limit) c (second (count_in p held k (level (kind p k) (size_of s p m e)) n) (sum rest) t);
    }
      where
        more : List Buffer
        more = level_buffers (levels_left s p m (suc k) es) (count_below (kind p k) (size_of s p m e) n rows) (down (kind p k) (size_of s p m e) rows)

        second : (x y : ℕ) → x + y ≤ limit → y ≤ limit
        second x y t = omega (arith, t)
