-- The buffer of each piece of a part, and how long the columns of a pack are.
use Rattle.std.proofs.Common.{◌≡◌, ℕ, zero, suc, ◌+◌, ◌-◌, ◌<◌, ◌≤◌, ◌⊎◌, List, [], ◌∷◌, ◌++◌, map, length, get_or, Bool, true, sym, refl, ap, ap₂, ◌∙◌, subst, inl, inr, arith, eqb-true, eq-eqb, one-add}
use Rattle.std.specs.List.{list_any, position_or_len}
use Rattle.std.proofs.lemmas.Bool.{or_cases, or_left, or_right, false≢true, cases_lt}
use Rattle.us_expr.specs.Tree.{Tree}
use Rattle.us_format.specs.declared.Kind.{Kind}
use Rattle.us_format.specs.declared.Kind.TheVariants.{Full, Compressed, Listed, Slot}
use Rattle.us_format.specs.Matrix.{Shape}
use Rattle.us_format.specs.Declaration.{Column, LevelColumn, ValueColumn, Part, same_column}
use Rattle.us_format.specs.Coordinates.{level_range, span}
use Rattle.us_format.specs.Kinds.{Level, kind, levels_from, levels_of}
use Rattle.us_format.specs.Positions.{Row, count_below, down}
use Rattle.us_format.specs.Packs.{Piece, PosOf, CellsOf, same_piece, level_pieces, pieces_from, pieces, Buffer, buffer_of}
use Rattle.us_format.specs.Buffers.{buffers_at, crd_buffer, level_buffers}
use Rattle.us_format.specs.Rules.{depth, is_piece, IsAligned, ArePacksLawful}
use Rattle.us_format.proofs.Order.{Mem}
use Rattle.us_format.proofs.Members.{Mem-left, Mem-right, all-Mem}
use Rattle.us_format.proofs.Collect.{Distinct, unlike}
use Rattle.us_format.proofs.Queries.{found-first}
use Rattle.us_format.proofs.Packs.{AllLong, same-map}
use Rattle.us_format.specs.Lists.{join}

-- ---- members that a test tells apart

module _ {A : Type 0} (alike : A → A → Bool) (tells : (a b : A) → alike a b ≡ true → a ≡ b) (itself : (a : A) → alike a a ≡ true) where
  pub Mem-any : (x : A) (xs : List A) → Mem x xs → list_any (alike x) xs ≡ true
  Mem-any x [] h = absurd h
  Mem-any x (y ∷ ys) (inl e) = or_left _ _ (subst (λ (z : A). alike x z ≡ true) (sym e) (itself x))
  Mem-any x (y ∷ ys) (inr h) = or_right _ _ (Mem-any x ys h)

  pub any-Mem : (x : A) (xs : List A) → list_any (alike x) xs ≡ true → Mem x xs
  any-Mem x [] h = absurd (false≢true h)
  any-Mem x (y ∷ ys) h = go (or_cases (alike x y) (list_any (alike x) ys) h) (any-Mem x ys)
    where
      go : ((alike x y ≡ true) ⊎ (list_any (alike x) ys ≡ true)) → (list_any (alike x) ys ≡ true → Mem x ys) → Mem x (y ∷ ys)
      go (inl e) ih = inl (sym (tells x y e))
      go (inr e) ih = inr (ih e)

  -- a member stands at the place at which it is found first
  pub found-at : (x : A) (xs : List A) (d : A) → Mem x xs → (position_or_len (alike x) xs < length xs) × (get_or xs (position_or_len (alike x) xs) d ≡ x)
  found-at x xs d h = let r = found-first (alike x) xs d (Mem-any x xs h) in (r.0, sym (tells x _ r.1))

pub same_column-true : (a b : Column) → same_column a b ≡ true → a ≡ b
same_column-true (LevelColumn a) (LevelColumn b) h = ap LevelColumn (eqb-true a b h)
same_column-true (LevelColumn a) ValueColumn h = absurd (false≢true h)
same_column-true ValueColumn (LevelColumn b) h = absurd (false≢true h)
same_column-true ValueColumn ValueColumn h = refl

pub same_column-self : (a : Column) → same_column a a ≡ true
same_column-self (LevelColumn a) = eq-eqb a a refl
same_column-self ValueColumn = refl

pub same_piece-true : (a b : Piece) → same_piece a b ≡ true → a ≡ b
same_piece-true (PosOf a) (PosOf b) h = ap PosOf (eqb-true a b h)
same_piece-true (PosOf a) (CellsOf b) h = absurd (false≢true h)
same_piece-true (CellsOf a) (PosOf b) h = absurd (false≢true h)
same_piece-true (CellsOf a) (CellsOf b) h = ap CellsOf (same_column-true a b h)

pub same_piece-self : (a : Piece) → same_piece a a ≡ true
same_piece-self (PosOf a) = eq-eqb a a refl
same_piece-self (CellsOf a) = same_column-self a

-- ---- each piece stands once

-- the piece is of the level k or of a later one
abbrev pub IsFrom : ℕ → Piece → Type 0
IsFrom k (PosOf j) = k ≤ j
IsFrom k (CellsOf (LevelColumn j)) = k ≤ j
IsFrom k (CellsOf ValueColumn) = Unit {0}

pub from-more : (k : ℕ) (x : Piece) → IsFrom (suc k) x → IsFrom k x
from-more k (PosOf j) h = omega (arith, h)
from-more k (CellsOf (LevelColumn j)) h = omega (arith, h)
from-more k (CellsOf ValueColumn) h = tt

pub pieces-are-from : (p : Part) (k : ℕ) (es : List Tree) (x : Piece) → Mem x (pieces_from p k es) → IsFrom k x
pieces-are-from p k [] x (inl e) = subst (IsFrom k) e tt
pieces-are-from p k [] x (inr h) = absurd h
pieces-are-from p k (e ∷ es) x h = go (kind p k) h (λ m. from-more k x (pieces-are-from p (suc k) es x m))
  where
    go : (kd : Kind) → Mem x (level_pieces k kd ++ pieces_from p (suc k) es) → (Mem x (pieces_from p (suc k) es) → IsFrom k x) → IsFrom k x
    go Full m ih = ih m
    go Compressed (inl q) ih = subst (IsFrom k) q (omega arith)
    go Compressed (inr (inl q)) ih = subst (IsFrom k) q (omega arith)
    go Compressed (inr (inr m)) ih = ih m
    go Listed (inl q) ih = subst (IsFrom k) q (omega arith)
    go Listed (inr (inl q)) ih = subst (IsFrom k) q (omega arith)
    go Listed (inr (inr m)) ih = ih m
    go Slot (inl q) ih = subst (IsFrom k) q (omega arith)
    go Slot (inr m) ih = ih m

pub pieces-distinct : (p : Part) (k : ℕ) (es : List Tree) → Distinct (pieces_from p k es)
pieces-distinct p k [] = (λ m. m, tt)
pieces-distinct p k (e ∷ es) = go (kind p k) (pieces-distinct p (suc k) es)
  where
    late : (x : Piece) → Mem x (pieces_from p (suc k) es) → IsFrom (suc k) x
    late x m = pieces-are-from p (suc k) es x m

    no_pos : Mem (PosOf k) (pieces_from p (suc k) es) → ⊥
    no_pos m = let h : suc k ≤ k = late (PosOf k) m in omega (arith, h)

    no_cells : Mem (CellsOf (LevelColumn k)) (pieces_from p (suc k) es) → ⊥
    no_cells m = let h : suc k ≤ k = late (CellsOf (LevelColumn k)) m in omega (arith, h)

    both : Mem (PosOf k) (CellsOf (LevelColumn k) ∷ pieces_from p (suc k) es) → ⊥
    both (inl q) = absurd (cc)
    both (inr m) = no_pos m

    go : (kd : Kind) → Distinct (pieces_from p (suc k) es) → Distinct (level_pieces k kd ++ pieces_from p (suc k) es)
    go Full ih = ih
    go Compressed ih = (both, (no_cells, ih))
    go Listed ih = (both, (no_cells, ih))
    go Slot ih = (no_cells, ih)

-- ---- the buffer of each piece

pub buffers-of-pieces : (xs : List Piece) (bs : List Buffer) → Distinct xs → length bs ≡ length xs → map (λ x. buffer_of x xs bs) xs ≡ bs
buffers-of-pieces [] [] d l = refl
buffers-of-pieces [] (b ∷ bs) d l = absurd (omega (arith, l))
buffers-of-pieces (x ∷ xs) [] d l = absurd (omega (arith, l))
buffers-of-pieces (x ∷ xs) (b ∷ bs) d l =
    ap₂ (λ (c : Buffer) (cs : List Buffer). c ∷ cs) (rw (same_piece-self x) refl)
    (same-map (λ y. buffer_of y (x ∷ xs) (b ∷ bs)) (λ y. buffer_of y xs bs) xs (λ y m. rw (unlike same_piece same_piece-true same_piece-self y x (λ e. d.0 (subst (λ (z : Piece). Mem z xs) e m)), one-add) refl)
    ∙ buffers-of-pieces xs bs d.1 (omega (arith, l)))

pub as-many-buffers : (s : Shape) (extents : List ℕ) (p : Part) (k : ℕ) (es : List Tree) (n : ℕ) (rows : List Row)
    → length (level_buffers (levels_from s extents p k es) n rows) ≡ length (pieces_from p k es)
as-many-buffers s extents p k [] n rows = refl
as-many-buffers s extents p k (e ∷ es) n rows = go (kind p k) _ n rows (λ n rows. as-many-buffers s extents p (suc k) es n rows)
  where
    go : (kd : Kind) (size n : ℕ) (rows : List Row) → ((n : ℕ) (rows : List Row) → length (level_buffers (levels_from s extents p (suc k) es) n rows) ≡ length (pieces_from p (suc k) es))
        → length (buffers_at kd size n rows ++ level_buffers (levels_from s extents p (suc k) es) (count_below kd size n rows) (down kd size rows))
        ≡ length (level_pieces k kd ++ pieces_from p (suc k) es)
    go Full size n rows ih = ih _ _
    go Compressed size n rows ih = ap (λ a. suc (suc a)) (ih _ _)
    go Listed size n rows ih = ap (λ a. suc (suc a)) (ih _ _)
    go Slot size n rows ih = ap suc (ih _ _)

-- ---- how long the columns are

-- how many positions there are after the first d levels
abbrev pub count_at : List Level → ℕ → List Row → ℕ → ℕ
count_at [] n rows d = n
count_at (l ∷ ls) n rows zero = n
count_at (l ∷ ls) n rows (suc d) = count_at ls (count_below l.kind l.size n rows) (down l.kind l.size rows) d

pub count_at-zero : (ls : List Level) (n : ℕ) (rows : List Row) → count_at ls n rows 0 ≡ n
count_at-zero [] n rows = refl
count_at-zero (l ∷ ls) n rows = refl

-- a slot level makes no new positions
pub slot-keeps : (s : Shape) (extents : List ℕ) (p : Part) (k : ℕ) (es : List Tree) (n : ℕ) (rows : List Row) (j : ℕ) → kind p (k + j) ≡ Slot
    → count_at (levels_from s extents p k es) n rows (suc j) ≡ count_at (levels_from s extents p k es) n rows j
slot-keeps s extents p k [] n rows j h = refl
slot-keeps s extents p k (e ∷ es) n rows zero h =
    let q : kind p k ≡ Slot = ap (kind p) (omega arith) ∙ h in
    count_at-zero (levels_from s extents p (suc k) es) (count_below (kind p k) (span (level_range s extents p e)) n rows) (down (kind p k) (span (level_range s extents p e)) rows)
    ∙ ap (λ (z : Kind). count_below z (span (level_range s extents p e)) n rows) q
slot-keeps s extents p k (e ∷ es) n rows (suc j) h =
    slot-keeps s extents p (suc k) es (count_below (kind p k) (span (level_range s extents p e)) n rows) (down (kind p k) (span (level_range s extents p e)) rows) j (ap (kind p) (omega arith) ∙ h)

pub slots-keep : (s : Shape) (extents : List ℕ) (p : Part) (es : List Tree) (n : ℕ) (rows : List Row) (a c : ℕ) → ((j : ℕ) → a ≤ j → j < a + c → kind p j ≡ Slot)
    → count_at (levels_from s extents p 0 es) n rows (a + c) ≡ count_at (levels_from s extents p 0 es) n rows a
slots-keep s extents p es n rows a zero h = ap (count_at (levels_from s extents p 0 es) n rows) (omega arith)
slots-keep s extents p es n rows a (suc c) h =
    ap (count_at (levels_from s extents p 0 es) n rows) (omega arith)
    ∙ slot-keeps s extents p 0 es n rows (a + c) (ap (kind p) (omega arith) ∙ h (a + c) (omega arith) (omega arith))
    ∙ slots-keep s extents p es n rows a c (λ j l m. h j l (omega (arith, m)))

pub one-same : {A : Type 0} (a b : A) (xs ys : List A) → a ∷ xs ≡ b ∷ ys → a ≡ b
one-same a b xs ys h = cc

pub rest-same : {A : Type 0} (a b : A) (xs ys : List A) → a ∷ xs ≡ b ∷ ys → xs ≡ ys
rest-same a b xs ys h = cc

pub two-same : {A : Type 0} (a b c d : A) (xs ys : List A) → a ∷ c ∷ xs ≡ b ∷ d ∷ ys → (c ≡ d) × (xs ≡ ys)
two-same a b c d xs ys h = (one-same c d xs ys (rest-same a b (c ∷ xs) (d ∷ ys) h), rest-same c d xs ys (rest-same a b (c ∷ xs) (d ∷ ys) h))

-- the columns of the levels from k on are deeper than k
pub deeper : (p : Part) (k : ℕ) (es : List Tree) (c : Column) → Mem (CellsOf c) (pieces_from p k es) → k < length p.levels → k < depth p c
deeper p k es (LevelColumn j) m l = let h : k ≤ j = pieces-are-from p k es (CellsOf (LevelColumn j)) m in omega (arith, h)
deeper p k es ValueColumn m l = l

-- a column has a cell for each position after so many levels as its depth says
pub column-length : (s : Shape) (extents : List ℕ) (p : Part) (g : Piece → Buffer) (k : ℕ) (es : List Tree) (n : ℕ) (rows : List Row) → k + length es ≡ length p.levels
    → map g (pieces_from p k es) ≡ level_buffers (levels_from s extents p k es) n rows
    → (c : Column) (d : ℕ) → Mem (CellsOf c) (pieces_from p k es) → depth p c ≡ k + d → (g (CellsOf c)).len ≡ count_at (levels_from s extents p k es) n rows d
column-length s extents p g k [] n rows total q ValueColumn d m at = ap (λ (b : Buffer). b.len) (one-same _ _ _ _ q)
column-length s extents p g k [] n rows total q (LevelColumn j) d (inl e) at = absurd (cc)
column-length s extents p g k [] n rows total q (LevelColumn j) d (inr h) at = absurd h
column-length s extents p g k (e ∷ es) n rows total q c zero m at = absurd (omega (arith, deeper p k (e ∷ es) c m (omega (arith, total)), at))
column-length s extents p g k (e ∷ es) n rows total q c (suc d) m at =
    go (kind p k) (span (level_range s extents p e)) q m (λ n rows q m. column-length s extents p g (suc k) es n rows (omega (arith, total)) q c d m (at ∙ omega arith))
  where
    Rest : Type 0
    Rest =
        (n : ℕ) (rows : List Row) → map g (pieces_from p (suc k) es) ≡ level_buffers (levels_from s extents p (suc k) es) n rows → Mem (CellsOf c) (pieces_from p (suc k) es)
        → (g (CellsOf c)).len ≡ count_at (levels_from s extents p (suc k) es) n rows d

    here : (kd : Kind) (size : ℕ) → g (CellsOf (LevelColumn k)) ≡ crd_buffer kd size n rows → CellsOf (LevelColumn k) ≡ CellsOf c
        → (g (CellsOf c)).len ≡ count_at (levels_from s extents p (suc k) es) (count_below kd size n rows) (down kd size rows) d
    here kd size b i =
        let i' : LevelColumn k ≡ c = cc in
        let z : d ≡ 0 = omega (arith, ap (depth p) i', at) in
        ap (λ (x : Piece). (g x).len) (sym i) ∙ ap (λ (y : Buffer). y.len) b
        ∙ sym (ap (count_at (levels_from s extents p (suc k) es) (count_below kd size n rows) (down kd size rows)) z ∙ count_at-zero (levels_from s extents p (suc k) es) (count_below kd size n rows) (down kd size rows))

    go : (kd : Kind) (size : ℕ)
        → map g (level_pieces k kd ++ pieces_from p (suc k) es) ≡ buffers_at kd size n rows ++ level_buffers (levels_from s extents p (suc k) es) (count_below kd size n rows) (down kd size rows)
        → Mem (CellsOf c) (level_pieces k kd ++ pieces_from p (suc k) es) → Rest
        → (g (CellsOf c)).len ≡ count_at (levels_from s extents p (suc k) es) (count_below kd size n rows) (down kd size rows) d
    go Full size q m ih = ih _ _ q m
    go Compressed size q (inl e) ih = absurd (cc)
    go Compressed size q (inr (inl i)) ih = here Compressed size (two-same _ _ _ _ _ _ q).0 i
    go Compressed size q (inr (inr m)) ih = ih _ _ (two-same _ _ _ _ _ _ q).1 m
    go Listed size q (inl e) ih = absurd (cc)
    go Listed size q (inr (inl i)) ih = here Listed size (two-same _ _ _ _ _ _ q).0 i
    go Listed size q (inr (inr m)) ih = ih _ _ (two-same _ _ _ _ _ _ q).1 m
    go Slot size q (inl i) ih = here Slot size (one-same _ _ _ _ q) i
    go Slot size q (inr m) ih = ih _ _ (rest-same _ _ _ _ q) m

pub Mem-join_of : (c : Column) (pack : List Column) (packs : List (List Column)) → Mem c pack → Mem pack packs → Mem c (join packs)
Mem-join_of c pack [] m h = absurd h
Mem-join_of c pack (x ∷ xs) m (inl e) = Mem-left c x (join xs) (subst (λ (z : List Column). Mem c z) (sym e) m)
Mem-join_of c pack (x ∷ xs) m (inr h) = Mem-right c x (join xs) (Mem-join_of c pack xs m h)

module _ (p : Part) (packs : ArePacksLawful p) where
  pub column-piece : (c : Column) (pack : List Column) → Mem c pack → Mem pack p.packs → Mem (CellsOf c) (pieces p)
  column-piece c pack m mp =
      any-Mem same_piece same_piece-true same_piece-self (CellsOf c) (pieces p)
      (all-Mem (λ c. is_piece p c ≡ true) (join p.packs) c packs.columns (Mem-join_of c pack p.packs m mp))

  pub pack-aligned : (pack : List Column) → Mem pack p.packs → (c d : Column) → Mem c pack → Mem d pack → (k : ℕ) → depth p c ≤ k → k < depth p d → kind p k ≡ Slot
  pack-aligned pack mp c d mc md =
      all-Mem (IsAligned p) p.packs pack packs.aligned mp c d (Mem-any same_column same_column-true same_column-self c pack mc) (Mem-any same_column same_column-true same_column-self d pack md)

  module _ (s : Shape) (extents : List ℕ) (n : ℕ) (rows : List Row) (g : Piece → Buffer) (q : map g (pieces p) ≡ level_buffers (levels_of s extents p) n rows) where
    pub long-of : (c : Column) → Mem (CellsOf c) (pieces p) → (g (CellsOf c)).len ≡ count_at (levels_of s extents p) n rows (depth p c)
    long-of c m = column-length s extents p g 0 p.levels n rows (omega arith) q c (depth p c) m (omega arith)

    pub deeper-alike : (pack : List Column) → Mem pack p.packs → (c d : Column) → Mem c pack → Mem d pack → depth p c ≤ depth p d → (g (CellsOf d)).len ≡ (g (CellsOf c)).len
    deeper-alike pack mp c d mc md l =
        let e : depth p c + (depth p d - depth p c) ≡ depth p d = omega (arith, l) in
        long-of d (column-piece d pack md mp)
        ∙ ap (count_at (levels_of s extents p) n rows) (sym e)
        ∙ slots-keep s extents p p.levels n rows (depth p c) (depth p d - depth p c) (λ j a b. pack-aligned pack mp c d mc md j a (omega (arith, b, l)))
        ∙ sym (long-of c (column-piece c pack mc mp))

    pub alike-long : (pack : List Column) → Mem pack p.packs → (c d : Column) → Mem c pack → Mem d pack → (g (CellsOf d)).len ≡ (g (CellsOf c)).len
    alike-long pack mp c d mc md = go (cases_lt (depth p d) (depth p c))
      where
        go : ((depth p d < depth p c) ⊎ (depth p c ≤ depth p d)) → (g (CellsOf d)).len ≡ (g (CellsOf c)).len
        go (inl l) = sym (deeper-alike pack mp d c md mc (omega (arith, l)))
        go (inr l) = deeper-alike pack mp c d mc md l

    -- the columns of a lawful pack are equally long
    pub pack-long : (pack : List Column) → Mem pack p.packs → (len : ℕ) × AllLong len (map (λ c. g (CellsOf c)) pack)
    pack-long [] mp = (0, tt)
    pack-long (c ∷ cs) mp = ((g (CellsOf c)).len, all (c ∷ cs) (λ d m. alike-long (c ∷ cs) mp c d (inl refl) m))
      where
        all : (ds : List Column) → ((d : Column) → Mem d ds → (g (CellsOf d)).len ≡ (g (CellsOf c)).len) → AllLong (g (CellsOf c)).len (map (λ d. g (CellsOf d)) ds)
        all [] h = tt
        all (d ∷ ds) h = (h d (inl refl), all ds (λ e m. h e (inr m)))
