-- Packs that pass the rule on packs are runs of columns, as the loops take them.
use Rattle.std.proofs.Common.{◌≡◌, ℕ, zero, suc, ◌+◌, ◌-◌, ◌*◌, ◌<◌, ◌≤◌, ◌⊎◌, List, [], ◌∷◌, ◌++◌, map, length, drop, Bool, true, false, cond, not, ◌&&◌, ◌||◌, None, sym, refl, ap, ap₂, ◌∙◌, subst, inl, inr, arith, eqb-true, ltb-true, filter, sum_by}
use Rattle.std.specs.Prelude.{nat_le, nat_lt, nat_eq}
use Rattle.std.specs.List.{list_any}
use Rattle.std.proofs.lemmas.Bool.{and_parts, and_from, or_cases, false≢true}
use Rattle.std.proofs.lemmas.List.{length-map}
use Rattle.std.proofs.lemmas.List.Folds.{list_any-append}
use Rattle.std.proofs.lemmas.List.Sums.{sum_by-cons, sum_by-append}
use Rattle.us_expr.specs.Tree.{Tree}
use Rattle.us_format.specs.declared.Kind.{Kind}
use Rattle.us_format.specs.declared.Kind.TheVariants.{Full, Compressed, Listed, Slot}
use Rattle.us_format.specs.Lists.{among, join}
use Rattle.us_format.specs.Matrix.{Shape, Entry}
use Rattle.us_format.specs.Declaration.{Column, LevelColumn, ValueColumn, Part, same_column, has_extent, has_table}
use Rattle.us_format.specs.Queries.{extents_of}
use Rattle.us_format.specs.Kinds.{Level, kind, is_loose, before_loose, tells}
use Rattle.us_format.specs.Kinds as format
use Rattle.us_format.specs.Packs.{Piece, CellsOf, Buffer, in_pack, pieces, own_pieces, buffer_of, interleaved}
use Rattle.us_format.specs.Positions.{Row, rows_of, count_below, down}
use Rattle.us_format.specs.Buffers.{extent_buffer, table_buffer, piece_buffers, part_buffers}
use Rattle.us_format.specs.Reading.{limit}
use Rattle.us_format.specs.Rules.{depth, each_once, ArePacksLawful}
use Rattle.us_format.proofs.Order.{Mem}
use Rattle.us_format.proofs.Lookup.{not-true, or-false}
use Rattle.us_format.proofs.Pieces.{any-Mem, same_column-true, same_column-self, pieces-distinct, buffers-of-pieces, as-many-buffers, count_at, column-piece, long-of}
use Rattle.us_format.proofs.PackSizes.{packed-by-join, sum-map}
use Rattle.us_format_loops.specs.Laws.{StaysLoose, levels_on}
use Rattle.us_format_loops.specs.Nodes.{are_slots}
use Rattle.us_format_loops.specs.Nodes as nodes
use Rattle.us_format_loops.proofs.Split.{loose-slot, loose-rest}
use Rattle.us_judge.specs.Acceptance.{first_failing, is_slot, is_full, is_run_from, is_run, is_apart, is_lawful_pack}
use Rattle.us_judge.proofs.Accepted.{passed}
use Rattle.us_pack_loops.specs.Standing.{count_behind}
use Rattle.us_pack_loops.proofs.Columns.{slots-count}
use Rattle.us_gen_building.specs.Levels.{are_last}
use Rattle.us_gen_pack_building.specs.Levels.{has, is_packed, FitRuns}
use Rattle.us_gen_pack_building.specs.Runs.{column_at, columns_from, columns_of, AreLast, AreApart, AreCellsSmall}
use Rattle.us_gen_pack_building.proofs.Columns.{col_level, col_value, packed_same}
use Rattle.us_gen_pack_building.proofs.Costs.{few_packs, few_columns}
use Rattle.us_gen_parts_build.specs.Parts.{levels_from, run_of}
use Rattle.us_gen_parts_build.proofs.Orderly.{last-same}
use Rattle.us_gen_parts_build.proofs.Ready.{ArePacked}

slot-is : (z : Kind) → is_slot z ≡ true → z ≡ Slot
slot-is Full h = absurd (false≢true h)
slot-is Compressed h = absurd (false≢true h)
slot-is Listed h = absurd (false≢true h)
slot-is Slot h = refl

slot-node : (z : Kind) → nodes.is_slot z ≡ true → z ≡ Slot
slot-node Full h = absurd (false≢true h)
slot-node Compressed h = absurd (false≢true h)
slot-node Listed h = absurd (false≢true h)
slot-node Slot h = refl

-- a slot level is loose
loose-kind : (t g b : Bool) → (cond t (cond g Compressed (cond b Slot Listed)) Full ≡ Slot) → (t && not g) ≡ true
loose-kind true true b h = absurd cc
loose-kind true false b h = refl
loose-kind false g b h = absurd cc

-- ---- lists without repeats

once-apart : (c : Column) (xs ys : List Column) → each_once (xs ++ ys) ≡ true → in_pack c xs ≡ true → in_pack c ys ≡ false
once-apart c [] ys h e = absurd (false≢true e)
once-apart c (x ∷ xs) ys h e =
    let o = and_parts (not (in_pack x (xs ++ ys))) (each_once (xs ++ ys)) h in
    go (or_cases (same_column c x) (in_pack c xs) e) (not-true (in_pack x (xs ++ ys)) o.0) (λ (q : in_pack c xs ≡ true). once-apart c xs ys o.1 q)
  where
    go : ((same_column c x ≡ true) ⊎ (in_pack c xs ≡ true)) → in_pack x (xs ++ ys) ≡ false → (in_pack c xs ≡ true → in_pack c ys ≡ false) → in_pack c ys ≡ false
    go (inl q) n ih = ap (λ (d : Column). in_pack d ys) (same_column-true c x q) ∙ (or-false (in_pack x xs) (in_pack x ys) (sym (list_any-append (same_column x) xs ys) ∙ n)).1
    go (inr q) n ih = ih q

once-behind : (xs ys : List Column) → each_once (xs ++ ys) ≡ true → each_once ys ≡ true
once-behind [] ys h = h
once-behind (x ∷ xs) ys h = once-behind xs ys (and_parts (not (in_pack x (xs ++ ys))) (each_once (xs ++ ys)) h).1

-- a column in some pack
some-pack : (c : Column) (packs : List (List Column)) → list_any (in_pack c) packs ≡ true → (x : List Column) × Mem x packs × Mem c x
some-pack c [] h = absurd (false≢true h)
some-pack c (x ∷ xs) h = go (or_cases (in_pack c x) (list_any (in_pack c) xs) h) (some-pack c xs)
  where
    go : ((in_pack c x ≡ true) ⊎ (list_any (in_pack c) xs ≡ true)) → (list_any (in_pack c) xs ≡ true → (y : List Column) × Mem y xs × Mem c y) → (y : List Column) × Mem y (x ∷ xs) × Mem c y
    go (inl e) ih = (x, inl refl, any-Mem same_column same_column-true same_column-self c x e)
    go (inr e) ih = let r = ih e in (r.0, inr r.1, r.2)

-- ---- one pack

module _ (p : Part) where
  abbrev L : ℕ
  L = length p.levels

  columns-run : (l : ℕ) (cs : List Column) → is_run_from p l cs ≡ true → columns_from L l (length cs) ≡ cs
  columns-run l [] h = refl
  columns-run l (ValueColumn ∷ []) h = ap (λ (c : Column). c ∷ []) (col_value L l (omega (arith, eqb-true l L h)))
  columns-run l (ValueColumn ∷ d ∷ cs) h = absurd (false≢true h)
  columns-run l (LevelColumn k ∷ cs) h =
      let a = and_parts (nat_eq k l) _ h in
      let b = and_parts (nat_lt k L) _ a.1 in
      let d = and_parts (is_slot (kind p k)) (is_run_from p (suc l) cs) b.1 in
      let next : l + 1 ≡ suc l = omega arith in
      ap₂ (λ (c : Column) (xs : List Column). c ∷ xs) (ap (column_at L) (sym (eqb-true k l a.0)) ∙ col_level L k (ltb-true k L b.0))
      (ap (λ (j : ℕ). columns_from L j (length cs)) next ∙ columns-run (suc l) cs d.1)

  ends-run : (l : ℕ) (cs : List Column) → is_run_from p l cs ≡ true → l ≤ L → l + length cs ≤ L + 1
  ends-run l [] h le = omega (arith, le)
  ends-run l (ValueColumn ∷ []) h le = omega (arith, eqb-true l L h)
  ends-run l (ValueColumn ∷ d ∷ cs) h le = absurd (false≢true h)
  ends-run l (LevelColumn k ∷ cs) h le =
      let a = and_parts (nat_eq k l) _ h in
      let b = and_parts (nat_lt k L) _ a.1 in
      let d = and_parts (is_slot (kind p k)) (is_run_from p (suc l) cs) b.1 in
      let e : k ≡ l = eqb-true k l a.0 in
      let lt : k < L = ltb-true k L b.0 in
      omega (arith, e, lt, ends-run (suc l) cs d.1 (omega (arith, e, lt)))

  slot-run : (l : ℕ) (cs : List Column) → is_run_from p l cs ≡ true → (k : ℕ) → Mem (LevelColumn k) cs → kind p k ≡ Slot
  slot-run l [] h k m = absurd m
  slot-run l (ValueColumn ∷ []) h k (inl q) = absurd cc
  slot-run l (ValueColumn ∷ []) h k (inr m) = absurd m
  slot-run l (ValueColumn ∷ d ∷ cs) h k m = absurd (false≢true h)
  slot-run l (LevelColumn j ∷ cs) h k m =
      let a = and_parts (nat_eq j l) _ h in
      let b = and_parts (nat_lt j L) _ a.1 in
      let d = and_parts (is_slot (kind p j)) (is_run_from p (suc l) cs) b.1 in
      go (slot-is (kind p j) d.0) m (λ (n : Mem (LevelColumn k) cs). slot-run (suc l) cs d.1 k n)
    where
      go : kind p j ≡ Slot → Mem (LevelColumn k) (LevelColumn j ∷ cs) → (Mem (LevelColumn k) cs → kind p k ≡ Slot) → kind p k ≡ Slot
      go z (inl q) ih = let e : j ≡ k = cc in ap (kind p) (sym e) ∙ z
      go z (inr n) ih = ih n

  -- two or more columns in a run
  abbrev Passes : List Column → Type 0
  Passes x = (nat_le 2 (length x) ≡ true) × (is_run p x ≡ true)

  run-fits : (x : List Column) → Passes x → ((run_of L x).first < (run_of L x).end) × ((run_of L x).end ≤ L + 1)
  run-fits [] h = absurd (false≢true h.1)
  run-fits (ValueColumn ∷ cs) h = absurd (false≢true h.1)
  run-fits (LevelColumn k ∷ cs) h =
      let a = and_parts (nat_lt k L) _ h.1 in
      let b = and_parts (not (is_full (kind p k))) (is_run_from p (suc k) cs) a.1 in
      let lt : k < L = ltb-true k L a.0 in
      (omega arith, omega (arith, ends-run (suc k) cs b.1 (omega (arith, lt))))

  run-columns : (x : List Column) → Passes x → columns_of L (run_of L x) ≡ x
  run-columns [] h = absurd (false≢true h.1)
  run-columns (ValueColumn ∷ cs) h = absurd (false≢true h.1)
  run-columns (LevelColumn k ∷ cs) h =
      let a = and_parts (nat_lt k L) _ h.1 in
      let b = and_parts (not (is_full (kind p k))) (is_run_from p (suc k) cs) a.1 in
      let many : k + length (LevelColumn k ∷ cs) - k ≡ suc (length cs) = omega arith in
      let next : k + 1 ≡ suc k = omega arith in
      ap (columns_from L k) many
      ∙ ap₂ (λ (c : Column) (xs : List Column). c ∷ xs) (col_level L k (ltb-true k L a.0)) (ap (λ (j : ℕ). columns_from L j (length cs)) next ∙ columns-run (suc k) cs b.1)

  run-width : (x : List Column) → (run_of L x).end - (run_of L x).first ≡ length x
  run-width [] = refl
  run-width (c ∷ cs) = omega arith

  -- ---- all packs

  passing : (before : List (List Column)) (k : ℕ) (packs : List (List Column)) → first_failing (is_lawful_pack p) before k packs ≡ None → (x : List Column) → Mem x packs → Passes x
  passing before k [] h x m = absurd m
  passing before k (y ∷ packs) h x m =
      let q = passed (is_lawful_pack p before y) k (first_failing (is_lawful_pack p) (before ++ y ∷ []) (suc k) packs) h in
      let a = and_parts (nat_le 2 (length y)) _ q.0 in
      let b = and_parts (is_run p y) (is_apart before y) a.1 in
      go (a.0, b.0) m (λ (n : Mem x packs). passing (before ++ y ∷ []) (suc k) packs q.1 x n)
    where
      go : Passes y → Mem x (y ∷ packs) → (Mem x packs → Passes x) → Passes x
      go o (inl e) ih = subst Passes e o
      go o (inr n) ih = ih n

  -- each of them passes
  abbrev AllPass : List (List Column) → Type 0
  AllPass packs = (x : List Column) → Mem x packs → Passes x

  fit : (packs : List (List Column)) → AllPass packs → FitRuns (L + 1) (map (run_of L) packs)
  fit [] ok = tt
  fit (x ∷ xs) ok = let r = run-fits x (ok x (inl refl)) in (r.0, r.1, fit xs (λ y m. ok y (inr m)))

  columns-are : (packs : List (List Column)) → AllPass packs → map (columns_of L) (map (run_of L) packs) ≡ packs
  columns-are [] ok = refl
  columns-are (x ∷ xs) ok = ap₂ (λ (y : List Column) (ys : List (List Column)). y ∷ ys) (run-columns x (ok x (inl refl))) (columns-are xs (λ y m. ok y (inr m)))

  packed-here : (packs : List (List Column)) → AllPass packs → (k : ℕ) → k ≤ L → is_packed (map (run_of L) packs) k ≡ list_any (in_pack (column_at L k)) packs
  packed-here packs ok k le =
      sym (packed_same L k (map (run_of L) packs) le (fit packs ok)) ∙ ap (λ (cs : List (List Column)). list_any (in_pack (column_at L k)) cs) (columns-are packs ok)

  plain-or : (b : Bool) → (b || false) ≡ b
  plain-or true = refl
  plain-or false = refl

  has-here : (x : List Column) → Passes x → (k : ℕ) → k ≤ L → has (run_of L x) k ≡ in_pack (column_at L k) x
  has-here x h k le = sym (plain-or (has (run_of L x) k)) ∙ (packed-here (x ∷ []) one k le ∙ plain-or (in_pack (column_at L k) x))
    where
      one : AllPass (x ∷ [])
      one y (inl e) = subst Passes e h
      one y (inr m) = absurd m

  apart : (packs : List (List Column)) → AllPass packs → each_once (join packs) ≡ true → AreApart (map (run_of L) packs)
  apart [] ok h = tt
  apart (x ∷ xs) ok h = (here, apart xs (λ y m. ok y (inr m)) (once-behind x (join xs) h))
    where
      rest : AllPass xs
      rest y m = ok y (inr m)

      here : (k : ℕ) → has (run_of L x) k ≡ true → is_packed (map (run_of L) xs) k ≡ false
      here k e =
          let inside = and_parts (nat_le (run_of L x).first k) (nat_lt k (run_of L x).end) e in
          let le : k ≤ L = omega (arith, ltb-true k (run_of L x).end inside.1, (run-fits x (ok x (inl refl))).1) in
          packed-here xs rest k le
          ∙ (packed-by-join (column_at L k) xs ∙ once-apart (column_at L k) x (join xs) h (sym (has-here x (ok x (inl refl)) k le) ∙ e))

  -- ---- behind a column in a pack

  module _ (stays : StaysLoose p) where
    is-loose : (k : ℕ) → kind p k ≡ Slot → is_loose p k ≡ true
    is-loose k h = loose-kind (among k p.trim) (among k p.merge) (before_loose p k || tells p k) h

    slot-next : (k : ℕ) → kind p k ≡ Slot → suc k < L → kind p (suc k) ≡ Slot
    slot-next k h lt =
        let now : is_loose p k ≡ true = is-loose k h in
        let next : is_loose p (suc k) ≡ true = stays k lt now in
        slot-node (kind p (suc k))
        (subst (λ (b : Bool). nodes.is_slot (cond (among (suc k) p.trim) (cond (among (suc k) p.merge) Compressed (cond (b || tells p (suc k)) Slot Listed)) Full) ≡ true) (sym now)
        (loose-slot (among (suc k) p.trim) (among (suc k) p.merge) (tells p (suc k)) next))

    second : (k : ℕ) (cs : List Column) → nat_le 2 (length (LevelColumn k ∷ cs)) ≡ true → is_run_from p (suc k) cs ≡ true → suc k < L → kind p (suc k) ≡ Slot
    second k [] two r lt = absurd (false≢true two)
    second k (ValueColumn ∷ []) two r lt = absurd (omega (arith, eqb-true (suc k) L r, lt))
    second k (ValueColumn ∷ d ∷ cs) two r lt = absurd (false≢true r)
    second k (LevelColumn j ∷ cs) two r lt =
        let a = and_parts (nat_eq j (suc k)) _ r in
        let b = and_parts (nat_lt j L) _ a.1 in
        let d = and_parts (is_slot (kind p j)) (is_run_from p (suc (suc k)) cs) b.1 in
        ap (kind p) (sym (eqb-true j (suc k) a.0)) ∙ slot-is (kind p j) d.0

    -- the level behind a column in a pack is a slot level, if there is one
    after : (x : List Column) → Passes x → (c : Column) → Mem c x → depth p c < L → kind p (depth p c) ≡ Slot
    after [] h c m lt = absurd m
    after (ValueColumn ∷ cs) h c m lt = absurd (false≢true h.1)
    after (LevelColumn k ∷ cs) h ValueColumn m lt = absurd (omega (arith, lt))
    after (LevelColumn k ∷ cs) h (LevelColumn j) m lt =
        let a = and_parts (nat_lt k L) _ h.1 in
        let b = and_parts (not (is_full (kind p k))) (is_run_from p (suc k) cs) a.1 in
        go h.0 b.1 m lt
      where
        go : nat_le 2 (length (LevelColumn k ∷ cs)) ≡ true → is_run_from p (suc k) cs ≡ true → Mem (LevelColumn j) (LevelColumn k ∷ cs) → suc j < L → kind p (suc j) ≡ Slot
        go two r (inl q) g =
            let e : k ≡ j = cc in
            let f : suc k ≡ suc j = omega (arith, e) in
            ap (kind p) (sym f) ∙ second k cs two r (omega (arith, e, g))
        go two r (inr n) g = slot-next j (slot-run (suc k) cs r j n) g

    -- so are all levels behind it
    behind : (s : Shape) (extents : List ℕ) (d k : ℕ) (es : List Tree) → k + length es ≡ L → (k + d < L → kind p (k + d) ≡ Slot) → are_slots (drop d (format.levels_from s extents p k es)) ≡ true
    behind s extents zero k [] n h = refl
    behind s extents (suc d) k [] n h = refl
    behind s extents zero k (e ∷ es) n h =
        let q : kind p k ≡ Slot = ap (kind p) (omega arith) ∙ h (omega (arith, n)) in
        and_from _ _ (ap nodes.is_slot q) (loose-rest s extents p stays k es (omega (arith, n)) (is-loose k q))
    behind s extents (suc d) k (e ∷ es) n h = behind s extents d (suc k) es (omega (arith, n)) (λ (lt : suc k + d < L). ap (kind p) (omega arith) ∙ h (omega (arith, lt)))

    module _ (ok : AllPass p.packs) where
      last-from : (s : Shape) (d i k : ℕ) (es : List Tree) (cs : List ℕ) → i ≡ k → length cs ≡ length es → k + length es ≡ L → AreLast (map (run_of L) p.packs) i (levels_from s p d k es cs)
      last-from s d i k [] cs q n t = tt
      last-from s d i k (e ∷ es) [] q n t = absurd (omega (arith, n))
      last-from s d i k (e ∷ es) (c ∷ cs) q n t = (here, last-from s d (i + 1) (suc k) es cs (omega (arith, q)) (omega (arith, n)) (omega (arith, t)))
        where
          lt : k < L
          lt = omega (arith, t)

          here : is_packed (map (run_of L) p.packs) i ≡ true → are_last (levels_from s p d (suc k) es cs) ≡ true
          here h =
              let flag : list_any (in_pack (LevelColumn k)) p.packs ≡ true =
              ap (λ (x : Column). list_any (in_pack x) p.packs) (sym (col_level L k lt)) ∙ (sym (packed-here p.packs ok k (omega (arith, t))) ∙ (ap (is_packed (map (run_of L) p.packs)) (sym q) ∙ h)) in
              let r = some-pack (LevelColumn k) p.packs flag in
              last-same s p d (suc k) es cs (omega (arith, n))
              ∙ behind s [] 0 (suc k) es (omega (arith, t)) (λ (g : suc k + 0 < L). ap (kind p) (omega arith) ∙ after r.0 (ok r.0 r.1) (LevelColumn k) r.2 (omega (arith, g)))

      -- ---- lengths

      module _ (lawful : ArePacksLawful p) (s : Shape) (m : List Entry) where
        abbrev its : Piece → Buffer
        its x = buffer_of x (pieces p) (piece_buffers s p m)

        abbrev pack_buffer : List Column → Buffer
        pack_buffer x = interleaved (map (λ c. its (CellsOf c)) x)

        abbrev number : ℕ
        number = count_behind (levels_on s p m) 1 (rows_of m s p)

        column-long : (x : List Column) → Mem x p.packs → (c : Column) → Mem c x → (its (CellsOf c)).len ≡ number
        column-long x mx c mc =
            long-of p lawful s (extents_of m s p) 1 (rows_of m s p) its
            (buffers-of-pieces (pieces p) (piece_buffers s p m) (pieces-distinct p 0 p.levels) (as-many-buffers s (extents_of m s p) p 0 p.levels 1 (rows_of m s p)))
            c (column-piece p lawful c x mc mx)
            ∙ counts-end (levels_on s p m) 1 (rows_of m s p) (depth p c)
            (behind s (extents_of m s p) (depth p c) 0 p.levels (omega arith) (λ (g : 0 + depth p c < L). ap (kind p) (omega arith) ∙ after x (ok x mx) c mc (omega (arith, g))))
          where
            counts-end : (ls : List Level) (n : ℕ) (rows : List Row) (d : ℕ) → are_slots (drop d ls) ≡ true → count_at ls n rows d ≡ count_behind ls n rows
            counts-end [] n rows d h = refl
            counts-end (l ∷ ls) n rows zero h = sym (slots-count (l ∷ ls) n rows h)
            counts-end (l ∷ ls) n rows (suc d) h = counts-end ls (count_below l.kind l.size n rows) (down l.kind l.size rows) d h

        long-sum : (x : List Column) → ((c : Column) → Mem c x → (its (CellsOf c)).len ≡ number) → sum_by (λ (b : Buffer). b.len) (map (λ c. its (CellsOf c)) x) ≡ number * length x
        long-sum [] h = omega arith
        long-sum (c ∷ cs) h =
            sum_by-cons (λ (b : Buffer). b.len) (its (CellsOf c)) (map (λ c. its (CellsOf c)) cs)
            ∙ (ap₂ (λ (i j : ℕ). i + j) (h c (inl refl)) (long-sum cs (λ d n. h d (inr n))) ∙ one-more number (length cs))
          where
            one-more : (a b : ℕ) → a + a * b ≡ a * suc b
            one-more a b = omega arith

        member-le : (f : List Column → ℕ) (x : List Column) (xs : List (List Column)) → Mem x xs → f x ≤ sum_by f xs
        member-le f x [] n = absurd n
        member-le f x (y ∷ ys) (inl e) = omega (arith, sum_by-cons f y ys, ap f e)
        member-le f x (y ∷ ys) (inr n) = omega (arith, sum_by-cons f y ys, member-le f x ys n)

        -- a pack is as long as its columns together, and part of the size
        pack-within : (x : List Column) → Mem x p.packs → number * length x ≤ sum_by (λ (b : Buffer). b.len) (part_buffers s p m)
        pack-within x mx =
            let len : Buffer → ℕ = λ b. b.len in
            let extents = map (extent_buffer m s) (filter has_extent p.queries) in
            let tables = map (table_buffer m s) (filter has_table p.queries) in
            let own = map its (own_pieces p) in
            let packs = map pack_buffer p.packs in
            omega (
              arith,
              long-sum x (column-long x mx),
              member-le (λ y. (pack_buffer y).len) x p.packs mx,
              sum-map len pack_buffer p.packs,
              sum_by-append len own packs,
              sum_by-append len tables (own ++ packs),
              sum_by-append len extents (tables ++ (own ++ packs)),
            )

  small-from : (n : ℕ) (packs : List (List Column)) → ((x : List Column) → Mem x packs → n * length x ≤ limit) → AreCellsSmall n (map (run_of L) packs)
  small-from n [] h = tt
  small-from n (x ∷ xs) h = (subst (λ (w : ℕ). n * w ≤ limit) (sym (run-width x)) (h x (inl refl)), small-from n xs (λ y m. h y (inr m)))

-- packs of a part that pass the rule, where levels behind loose ones are loose
pub are-packed : (p : Part) (k : ℕ) → first_failing (is_lawful_pack p) [] k p.packs ≡ None → ArePacksLawful p → StaysLoose p → ArePacked p
are-packed p k h lawful stays =
    let ok : AllPass p p.packs = passing p [] k p.packs h in
    let fits : FitRuns (length p.levels + 1) (map (run_of (length p.levels)) p.packs) = fit p p.packs ok in
    let none : AreApart (map (run_of (length p.levels)) p.packs) = apart p p.packs ok lawful.once in
    record {
      runs = fits;
      apart = none;
      columns = columns-are p p.packs ok;
      few =
          omega (arith, few_packs (length p.levels + 1) (map (run_of (length p.levels)) p.packs) fits, few_columns (length p.levels + 1) (map (run_of (length p.levels)) p.packs) fits none, length-map p.packs (run_of (length p.levels)));
      last = λ s d cs n. last-from p stays ok s d 0 0 p.levels cs refl n (omega arith);
      small = λ s m le. small-from p (count_behind (levels_on s p m) 1 (rows_of m s p)) p.packs (λ x mx. omega (arith, pack-within p stays ok lawful s m x mx, le));
    }
