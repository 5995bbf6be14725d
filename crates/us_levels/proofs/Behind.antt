-- No full level stands behind a packed level or a loose one.
use Rattle.std.proofs.Common.{◌≡◌, ℕ, zero, suc, ◌+◌, ◌<◌, ◌≤◌, ◌⊎◌, List, [], ◌∷◌, ◌++◌, length, get_or, take, Bool, true, false, cond, not, ◌&&◌, ◌||◌, sym, refl, ap, ◌∙◌, inl, inr, arith, None, eqb-true, append_assoc, zero-add}
use Rattle.std.specs.Prelude.{nat_le, nat_lt, nat_eq}
use Rattle.std.specs.List.{list_any, range_with_len}
use Rattle.std.proofs.lemmas.Bool.{and_parts, or_cases, or_left, or_right, false≢true, cases_eq}
use Rattle.std.proofs.lemmas.List.{append-nil}
use Rattle.std.proofs.lemmas.List.FromFn.{get_or-range_with_len, length-range_with_len}
use Rattle.us_expr.specs.Tree.{Tree}
use Rattle.us_format.specs.declared.Kind.{Kind}
use Rattle.us_format.specs.declared.Kind.TheVariants.{Full, Compressed, Listed, Slot}
use Rattle.us_format.specs.Lists.{among}
use Rattle.us_format.specs.Declaration.{Column, LevelColumn, ValueColumn, Part}
use Rattle.us_format.specs.Kinds.{before_loose, is_loose, kind, levels_from, tells}
use Rattle.us_format.specs.Matrix.{Shape}
use Rattle.us_format.specs.Packs.{CellsOf, in_pack, is_packed}
use Rattle.us_judge.specs.Acceptance.{bad_count, bad_order, bad_pack, first_failing, first_level, first_pack, is_lawful_pack, is_run, is_run_from, is_slot, stays_loose}
use Rattle.us_judge.proofs.Accepted.{KeepsRules, passed}
use Rattle.us_judge.proofs.Looseness.{take-range}
use Rattle.us_build.specs.Ways.{is_full}
use Rattle.us_levels.specs.Comparable.{has_full}

-- ---- items that pass

-- where no item fails, each passes behind those before it
each-passed : {A : Type 0} (test : List A → A → Bool) (before : List A) (k : ℕ) (xs : List A) (i : ℕ) (d : A) → first_failing test before k xs ≡ None → i < length xs → test (before ++ take i xs) (get_or xs i d) ≡ true
each-passed test before k [] i d h l = absurd (omega arith)
each-passed {A} test before k (x ∷ xs) zero d h l =
    ap (λ (b : List A). test b x) (append-nil before) ∙ (passed (test before x) k (first_failing test (before ++ x ∷ []) (suc k) xs) h).0
each-passed {A} test before k (x ∷ xs) (suc i) d h l =
    ap (λ (b : List A). test b (get_or xs i d)) (sym (append_assoc before (x ∷ []) (take i xs)))
    ∙ each-passed test (before ++ x ∷ []) (suc k) xs i d (passed (test before x) k (first_failing test (before ++ x ∷ []) (suc k) xs) h).1 (omega arith)

any-at : {A : Type 0} (test : A → Bool) (xs : List A) (i : ℕ) (d : A) → i < length xs → test (get_or xs i d) ≡ true → list_any test xs ≡ true
any-at test [] i d l h = absurd (omega arith)
any-at test (x ∷ xs) zero d l h = or_left (test x) (list_any test xs) h
any-at test (x ∷ xs) (suc i) d l h = or_right (test x) (list_any test xs) (any-at test xs i d (omega arith) h)

-- ---- loose levels

loose-slot : (t g b : Bool) → cond t (cond g Compressed (cond b Slot Listed)) Full ≡ Slot → (t && not g) ≡ true
loose-slot true true b h = absurd cc
loose-slot true false b h = refl
loose-slot false g b h = absurd cc

loose-listed : (t g b : Bool) → cond t (cond g Compressed (cond b Slot Listed)) Full ≡ Listed → (t && not g) ≡ true
loose-listed true true b h = absurd cc
loose-listed true false b h = refl
loose-listed false g b h = absurd cc

trimmed-full : (t g b : Bool) → (t && not g) ≡ true → cond t (cond g Compressed (cond b Slot Listed)) Full ≡ Full → ⊥
trimmed-full true true b h e = absurd cc
trimmed-full true false true h e = absurd cc
trimmed-full true false false h e = absurd cc
trimmed-full false g b h e = absurd cc

slot-is : (k : Kind) → is_slot k ≡ true → k ≡ Slot
slot-is Full h = absurd (false≢true h)
slot-is Compressed h = absurd (false≢true h)
slot-is Listed h = absurd (false≢true h)
slot-is Slot h = refl

full-is : (k : Kind) → is_full k ≡ true → k ≡ Full
full-is Full h = refl
full-is Compressed h = absurd (false≢true h)
full-is Listed h = absurd (false≢true h)
full-is Slot h = absurd (false≢true h)

module _ (p : Part) where
  pub slot-loose : (k : ℕ) → kind p k ≡ Slot → is_loose p k ≡ true
  slot-loose k h = loose-slot (among k p.trim) (among k p.merge) (before_loose p k || tells p k) h

  pub listed-loose : (k : ℕ) → kind p k ≡ Listed → is_loose p k ≡ true
  listed-loose k h = loose-listed (among k p.trim) (among k p.merge) (before_loose p k || tells p k) h

  pub loose-full : (k : ℕ) → is_loose p k ≡ true → kind p k ≡ Full → ⊥
  loose-full k h e = trimmed-full (among k p.trim) (among k p.merge) (before_loose p k || tells p k) h e

  -- a full level among the levels from k on
  pub full-there : (s : Shape) (extents : List ℕ) (k : ℕ) (es : List Tree) → has_full (levels_from s extents p k es) ≡ true → (j : ℕ) × (k ≤ j) × (j < k + length es) × (kind p j ≡ Full)
  full-there s extents k [] h = absurd (false≢true h)
  full-there s extents k (e ∷ es) h = go (or_cases (is_full (kind p k)) (has_full (levels_from s extents p (suc k) es)) h) (full-there s extents (suc k) es)
    where
      go : ((is_full (kind p k) ≡ true) ⊎ (has_full (levels_from s extents p (suc k) es) ≡ true))
          → (has_full (levels_from s extents p (suc k) es) ≡ true → (j : ℕ) × (suc k ≤ j) × (j < suc k + length es) × (kind p j ≡ Full))
          → (j : ℕ) × (k ≤ j) × (j < k + suc (length es)) × (kind p j ≡ Full)
      go (inl q) ih = (k, omega arith, omega arith, full-is (kind p k) q)
      go (inr q) ih = let r = ih q in (r.0, omega (arith, r.1), omega (arith, r.2), r.3)

  -- ---- packs

  in-run : (l : ℕ) (cs : List Column) (k : ℕ) → is_run_from p l cs ≡ true → in_pack (LevelColumn k) cs ≡ true → kind p k ≡ Slot
  in-run l [] k h m = absurd (false≢true m)
  in-run l (ValueColumn ∷ []) k h m = absurd (false≢true m)
  in-run l (ValueColumn ∷ x ∷ cs) k h m = absurd (false≢true h)
  in-run l (LevelColumn b ∷ cs) k h m =
      let f = and_parts (nat_eq b l) _ h in
      let g = and_parts (nat_lt b (length p.levels)) _ f.1 in
      let d = and_parts (is_slot (kind p b)) (is_run_from p (suc l) cs) g.1 in
      go (slot-is (kind p b) d.0) (or_cases (nat_eq k b) (in_pack (LevelColumn k) cs) m) (in-run (suc l) cs k d.1)
    where
      go : kind p b ≡ Slot → ((nat_eq k b ≡ true) ⊎ (in_pack (LevelColumn k) cs ≡ true)) → (in_pack (LevelColumn k) cs ≡ true → kind p k ≡ Slot) → kind p k ≡ Slot
      go e (inl q) ih = ap (kind p) (eqb-true k b q) ∙ e
      go e (inr q) ih = ih q

  -- behind a compressed level of a pack there is a slot level or none
  run-behind : (pack : List Column) (k : ℕ) → nat_le 2 (length pack) ≡ true → is_run p pack ≡ true → in_pack (LevelColumn k) pack ≡ true → kind p k ≡ Compressed
      → (suc k ≡ length p.levels) ⊎ (kind p (suc k) ≡ Slot)
  run-behind [] k n h m c = absurd (false≢true h)
  run-behind (ValueColumn ∷ cs) k n h m c = absurd (false≢true h)
  run-behind (LevelColumn a ∷ []) k n h m c = absurd (false≢true n)
  run-behind (LevelColumn a ∷ x ∷ cs) k n h m c =
      let f = and_parts (nat_lt a (length p.levels)) _ h in
      let g = and_parts _ (is_run_from p (suc a) (x ∷ cs)) f.1 in
      go (or_cases (nat_eq k a) (in_pack (LevelColumn k) (x ∷ cs)) m) g.1
    where
      next : (y : Column) → is_run_from p (suc a) (y ∷ cs) ≡ true → (suc a ≡ length p.levels) ⊎ (kind p (suc a) ≡ Slot)
      next ValueColumn h = inl (eqb-true (suc a) (length p.levels) (and_parts _ (nat_eq (suc a) (length p.levels)) h).1)
      next (LevelColumn b) h =
          let f = and_parts (nat_eq b (suc a)) _ h in
          let g = and_parts (nat_lt b (length p.levels)) _ f.1 in
          let d = and_parts (is_slot (kind p b)) (is_run_from p (suc (suc a)) cs) g.1 in
          inr (ap (kind p) (sym (eqb-true b (suc a) f.0)) ∙ slot-is (kind p b) d.0)

      moved : (k ≡ a) → ((suc a ≡ length p.levels) ⊎ (kind p (suc a) ≡ Slot)) → (suc k ≡ length p.levels) ⊎ (kind p (suc k) ≡ Slot)
      moved e (inl q) = inl (ap suc e ∙ q)
      moved e (inr q) = inr (ap (λ (i : ℕ). kind p (suc i)) e ∙ q)

      go : ((nat_eq k a ≡ true) ⊎ (in_pack (LevelColumn k) (x ∷ cs) ≡ true)) → is_run_from p (suc a) (x ∷ cs) ≡ true → (suc k ≡ length p.levels) ⊎ (kind p (suc k) ≡ Slot)
      go (inl q) r = moved (eqb-true k a q) (next x r)
      go (inr q) r = let e : kind p k ≡ Slot = in-run (suc a) (x ∷ cs) k r q in absurd (compressed-slot (sym c ∙ e))
        where
          compressed-slot : Compressed ≡ Slot → ⊥
          compressed-slot e = absurd cc

  packed-behind : (before packs : List (List Column)) (i k : ℕ) → first_failing (is_lawful_pack p) before i packs ≡ None → list_any (in_pack (LevelColumn k)) packs ≡ true → kind p k ≡ Compressed
      → (suc k ≡ length p.levels) ⊎ (kind p (suc k) ≡ Slot)
  packed-behind before [] i k h m c = absurd (false≢true m)
  packed-behind before (pack ∷ packs) i k h m c =
      let q = passed (is_lawful_pack p before pack) i (first_failing (is_lawful_pack p) (before ++ pack ∷ []) (suc i) packs) h in
      let a = and_parts (nat_le 2 (length pack)) _ q.0 in
      let b = and_parts (is_run p pack) _ a.1 in
      go a.0 b.0 (or_cases (in_pack (LevelColumn k) pack) (list_any (in_pack (LevelColumn k)) packs) m) (λ n. packed-behind (before ++ pack ∷ []) packs (suc i) k q.1 n c)
    where
      go : nat_le 2 (length pack) ≡ true → is_run p pack ≡ true → ((in_pack (LevelColumn k) pack ≡ true) ⊎ (list_any (in_pack (LevelColumn k)) packs ≡ true))
          → (list_any (in_pack (LevelColumn k)) packs ≡ true → (suc k ≡ length p.levels) ⊎ (kind p (suc k) ≡ Slot)) → (suc k ≡ length p.levels) ⊎ (kind p (suc k) ≡ Slot)
      go n r (inl z) ih = run-behind pack k n r z c
      go n r (inr z) ih = ih z

  -- ---- a part that keeps the rules

  module _ (kept : KeepsRules p) where
    pub stays-loose : (i j : ℕ) → i < j → j < length p.levels → is_loose p i ≡ true → is_loose p j ≡ true
    stays-loose i j h l loose =
        let ordered : bad_order p ≡ None = kept 8 (1, bad_count) (omega arith) in
        let n : j < length (range_with_len 0 (length p.levels)) = omega (arith, l, length-range_with_len 0 (length p.levels)) in
        let t : stays_loose p ([] ++ take j (range_with_len 0 (length p.levels))) (get_or (range_with_len 0 (length p.levels)) j 0) ≡ true = each-passed (stays_loose p) [] (first_level p) (range_with_len 0 (length p.levels)) j 0 ordered n in
        let e : stays_loose p (range_with_len 0 j) j ≡ true =
        ap (λ (xs : List ℕ). stays_loose p xs j) (sym (take-range 0 (length p.levels) j (omega (arith, l))))
        ∙ ap (stays_loose p (take j (range_with_len 0 (length p.levels)))) (sym (get_or-range_with_len 0 (length p.levels) j 0 l ∙ zero-add j)) ∙ t in
        let some : list_any (is_loose p) (range_with_len 0 j) ≡ true =
        any-at (is_loose p) (range_with_len 0 j) i 0 (omega (arith, h, length-range_with_len 0 j)) (ap (is_loose p) (get_or-range_with_len 0 j i 0 h ∙ zero-add i) ∙ loose) in
        sym (ap (λ (b : Bool). not b || is_loose p j) some) ∙ e

    -- behind a loose level no level is full
    pub none-full : (s : Shape) (extents : List ℕ) (k : ℕ) (es : List Tree) → suc k + length es ≡ length p.levels → is_loose p k ≡ true → has_full (levels_from s extents p (suc k) es) ≡ true → ⊥
    none-full s extents k es e loose h =
        let f = full-there s extents (suc k) es h in
        loose-full f.0 (stays-loose k f.0 (omega (arith, f.1)) (omega (arith, f.2, e)) loose) f.3

    -- a compressed level before a full one is in no pack
    pub compressed-own : (s : Shape) (extents : List ℕ) (k : ℕ) (es : List Tree) → suc k + length es ≡ length p.levels → kind p k ≡ Compressed → has_full (levels_from s extents p (suc k) es) ≡ true
        → is_packed p (CellsOf (LevelColumn k)) ≡ false
    compressed-own s extents k es e c h = go (is_packed p (CellsOf (LevelColumn k))) refl
      where
        full-slot : Full ≡ Slot → ⊥
        full-slot q = absurd cc

        behind : ((suc k ≡ length p.levels) ⊎ (kind p (suc k) ≡ Slot)) → ⊥
        behind (inl q) = let f = full-there s extents (suc k) es h in absurd (omega (arith, f.1, f.2, e, q))
        behind (inr q) =
            let f = full-there s extents (suc k) es h in
            at f.0 f.1 f.2 f.3 (cases_eq f.0 (suc k)) q
          where
            at : (j : ℕ) → suc k ≤ j → j < suc k + length es → kind p j ≡ Full → ((j ≡ suc k) ⊎ (j ≡ suc k → ⊥)) → kind p (suc k) ≡ Slot → ⊥
            at j a b d (inl w) q = full-slot (sym d ∙ ap (kind p) w ∙ q)
            at j a b d (inr w) q = loose-full j (stays-loose (suc k) j (apart j a w) (omega (arith, b, e)) (slot-loose (suc k) q)) d
              where
                apart : (j : ℕ) → suc k ≤ j → (j ≡ suc k → ⊥) → suc k < j
                apart j a w = omega (arith, a, w)

        go : (b : Bool) → is_packed p (CellsOf (LevelColumn k)) ≡ b → b ≡ false
        go false q = refl
        go true q =
            let good : bad_pack p ≡ None = kept 11 (1, bad_count) (omega arith) in
            absurd (behind (packed-behind [] p.packs (first_pack p) k good q c))
