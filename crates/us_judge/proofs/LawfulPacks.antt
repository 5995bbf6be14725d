-- Packs that pass the rule on packs are lawful.
use Rattle.std.proofs.Common.{◌≡◌, ℕ, suc, ◌+◌, ◌<◌, ◌≤◌, ◌⊎◌, List, [], ◌∷◌, ◌++◌, length, Bool, true, false, cond, not, ◌||◌, sym, refl, ap, ◌∙◌, subst, inl, inr, arith, Some, None, eqb-true, ltb-true}
use Rattle.std.specs.Prelude.{nat_le, nat_lt, nat_eq}
use Rattle.std.specs.List.{list_any, list_all}
use Rattle.std.proofs.lemmas.Bool.{and_parts, and_from, or_from, false≢true, cases_eq}
use Rattle.std.proofs.lemmas.List.Folds.{list_any-append}
use Rattle.us_expr.specs.Tree.{Tree}
use Rattle.us_format.specs.declared.Kind.{Kind}
use Rattle.us_format.specs.declared.Kind.TheVariants.{Full, Compressed, Listed, Slot}
use Rattle.us_format.specs.Lists.{join}
use Rattle.us_format.specs.Declaration.{Column, LevelColumn, ValueColumn, Part, same_column}
use Rattle.us_format.specs.Kinds.{kind}
use Rattle.us_format.specs.Packs.{CellsOf, level_pieces, pieces_from, pieces, same_piece, in_pack}
use Rattle.us_format.specs.Rules.{is_piece, each_once, depth, IsAligned, ArePacksLawful}
use Rattle.us_format.proofs.Order.{Mem}
use Rattle.us_format.proofs.Members.{Mem-all, Mem-right, Mem-either}
use Rattle.us_format.proofs.Lookup.{not-true, or-false}
use Rattle.us_format.proofs.Pieces.{Mem-any, any-Mem, same_column-true, same_column-self, same_piece-true, same_piece-self}
use Rattle.us_judge.specs.Acceptance.{first_failing, is_slot, is_full, is_run_from, is_run, is_lawful_pack}

-- ---- tests

slot-is : (k : Kind) → is_slot k ≡ true → k ≡ Slot
slot-is Full h = absurd (false≢true h)
slot-is Compressed h = absurd (false≢true h)
slot-is Listed h = absurd (false≢true h)
slot-is Slot h = refl

pack-Mem : (c : Column) (cs : List Column) → in_pack c cs ≡ true → Mem c cs
pack-Mem c cs h = any-Mem same_column same_column-true same_column-self c cs h

Mem-pack : (c : Column) (cs : List Column) → Mem c cs → in_pack c cs ≡ true
Mem-pack c cs m = Mem-any same_column same_column-true same_column-self c cs m

-- ---- one run

module _ (p : Part) where
  -- what a run of columns from the level l on says of one of them
  record InRun (l : ℕ) (c : Column) : Type 0 where
    pub deep : l ≤ depth p c
    pub slots : (j : ℕ) → l ≤ j → j < depth p c → kind p j ≡ Slot
    pub bound : (k : ℕ) → c ≡ LevelColumn k → (l ≤ k) × (k < length p.levels)

  in-run : (l : ℕ) (cs : List Column) → is_run_from p l cs ≡ true → (c : Column) → Mem c cs → InRun l c
  in-run l [] h c m = absurd m
  in-run l (ValueColumn ∷ []) h c (inr m) = absurd m
  in-run l (ValueColumn ∷ d ∷ cs) h c m = absurd (false≢true h)
  in-run l (ValueColumn ∷ []) h c (inl e) = subst (InRun l) e (record {
    deep = omega (arith, eqb-true l (length p.levels) h);
    slots = λ j a b. absurd (omega (arith, eqb-true l (length p.levels) h, a, b));
    bound = λ k q. absurd (cc);
  })
  in-run l (LevelColumn k ∷ cs) h c m =
      let a = and_parts (nat_eq k l) _ h in
      let b = and_parts (nat_lt k (length p.levels)) _ a.1 in
      let d = and_parts (is_slot (kind p k)) (is_run_from p (suc l) cs) b.1 in
      go (eqb-true k l a.0) (ltb-true k (length p.levels) b.0) (slot-is (kind p k) d.0) m (λ n. in-run (suc l) cs d.1 c n)
    where
      go : k ≡ l → k < length p.levels → kind p k ≡ Slot → Mem c (LevelColumn k ∷ cs) → (Mem c cs → InRun (suc l) c) → InRun l c
      go e f g (inl q) ih = subst (InRun l) q (record {
        deep = omega (arith, e);
        slots = λ j x y. ap (kind p) (omega (arith, e, x, y)) ∙ g;
        bound = λ i r. let s : k ≡ i = cc in (omega (arith, e, s), omega (arith, f, s));
      })
      go e f g (inr n) ih =
          let r = ih n in record {
            deep = omega (arith, r.deep);
            slots = λ j x y. next j x y (cases_eq j l) r g e;
            bound = λ i q. let s = r.bound i q in (omega (arith, s.0), s.1);
          }
        where
          next : (j : ℕ) → l ≤ j → j < depth p c → ((j ≡ l) ⊎ (j ≡ l → ⊥)) → InRun (suc l) c → kind p k ≡ Slot → k ≡ l → kind p j ≡ Slot
          next j x y (inl w) r g e = ap (kind p) (w ∙ sym e) ∙ g
          next j x y (inr w) r g e = r.slots j (above w x) y
            where
              above : (j ≡ l → ⊥) → l ≤ j → suc l ≤ j
              above n x = omega (arith, n, x)

  -- ---- pieces

  -- a level that isn't full has a column
  level-piece : (a : ℕ) (es : List Tree) (k : ℕ) → is_full (kind p k) ≡ false → a ≤ k → k < a + length es
      → Mem (CellsOf (LevelColumn k)) (pieces_from p a es)
  level-piece a [] k f l h = absurd (omega (arith, l, h))
  level-piece a (e ∷ es) k f l h = go (cases_eq a k) (λ n. level-piece (suc a) es k f n (omega (arith, h)))
    where
      first : (kd : Kind) → is_full kd ≡ false → Mem (CellsOf (LevelColumn a)) (level_pieces a kd ++ pieces_from p (suc a) es)
      first Full q = absurd (false≢true (sym q))
      first Compressed q = inr (inl refl)
      first Listed q = inr (inl refl)
      first Slot q = inl refl

      go : ((a ≡ k) ⊎ (a ≡ k → ⊥)) → (suc a ≤ k → Mem (CellsOf (LevelColumn k)) (pieces_from p (suc a) es)) → Mem (CellsOf (LevelColumn k)) (pieces_from p a (e ∷ es))
      go (inl q) ih =
          subst (λ (z : ℕ). Mem (CellsOf (LevelColumn z)) (pieces_from p a (e ∷ es))) q (first (kind p a) (ap (λ (z : ℕ). is_full (kind p z)) q ∙ f))
      go (inr n) ih = Mem-right (CellsOf (LevelColumn k)) (level_pieces a (kind p a)) (pieces_from p (suc a) es) (ih (omega (arith, n, l)))

  value-piece : (a : ℕ) (es : List Tree) → Mem (CellsOf ValueColumn) (pieces_from p a es)
  value-piece a [] = inl refl
  value-piece a (e ∷ es) = Mem-right (CellsOf ValueColumn) (level_pieces a (kind p a)) (pieces_from p (suc a) es) (value-piece (suc a) es)

  run-piece : (l : ℕ) (c : Column) → InRun l c → Mem (CellsOf c) (pieces p)
  run-piece l ValueColumn r = value-piece 0 p.levels
  run-piece l (LevelColumn k) r =
      let b = r.bound k refl in
      level-piece 0 p.levels k (ap is_full (r.slots k b.0 (omega arith))) (omega arith) (omega (arith, b.1))

  -- ---- one pack

  -- what the laws want of a pack, and that its columns are pieces
  record PackLaws (pack : List Column) : Type 0 where
    pub stand : (c : Column) → Mem c pack → Mem (CellsOf c) (pieces p)
    pub once : each_once pack ≡ true
    pub aligned : IsAligned p pack

  -- a level before a run isn't in it
  fresh : (k l : ℕ) (cs : List Column) → is_run_from p l cs ≡ true → k < l → in_pack (LevelColumn k) cs ≡ false
  fresh k l cs h n = go (in_pack (LevelColumn k) cs) refl
    where
      go : (b : Bool) → in_pack (LevelColumn k) cs ≡ b → b ≡ false
      go false q = refl
      go true q =
          let m = pack-Mem (LevelColumn k) cs q in
          absurd (omega (arith, ((in-run l cs h (LevelColumn k) m).bound k refl).0, n))

  run-once : (l : ℕ) (cs : List Column) → is_run_from p l cs ≡ true → each_once cs ≡ true
  run-once l [] h = refl
  run-once l (ValueColumn ∷ []) h = refl
  run-once l (ValueColumn ∷ d ∷ cs) h = absurd (false≢true h)
  run-once l (LevelColumn k ∷ cs) h =
      let a = and_parts (nat_eq k l) _ h in
      let b = and_parts (nat_lt k (length p.levels)) _ a.1 in
      let d = and_parts (is_slot (kind p k)) (is_run_from p (suc l) cs) b.1 in
      and_from (not (in_pack (LevelColumn k) cs)) (each_once cs) (ap not (fresh k (suc l) cs d.1 (omega (arith, eqb-true k l a.0)))) (run-once (suc l) cs d.1)

  pack-laws : (pack : List Column) → is_run p pack ≡ true → PackLaws pack
  pack-laws [] h = absurd (false≢true h)
  pack-laws (ValueColumn ∷ cs) h = absurd (false≢true h)
  pack-laws (LevelColumn k ∷ cs) h =
      let a = and_parts (nat_lt k (length p.levels)) _ h in
      let b = and_parts (not (is_full (kind p k))) (is_run_from p (suc k) cs) a.1 in
      record {
        stand = λ c m. stands (ltb-true k (length p.levels) a.0) (not-true (is_full (kind p k)) b.0) b.1 c m;
        once = and_from (not (in_pack (LevelColumn k) cs)) (each_once cs) (ap not (fresh k (suc k) cs b.1 (omega arith))) (run-once (suc k) cs b.1);
        aligned = λ c d ic id j x y. between b.1 c d (pack-Mem c (LevelColumn k ∷ cs) ic) (pack-Mem d (LevelColumn k ∷ cs) id) j x y;
      }
    where
      stands : k < length p.levels → is_full (kind p k) ≡ false → is_run_from p (suc k) cs ≡ true → (c : Column) → Mem c (LevelColumn k ∷ cs) → Mem (CellsOf c) (pieces p)
      stands l f r c (inl e) = subst (λ (z : Column). Mem (CellsOf z) (pieces p)) e (level-piece 0 p.levels k f (omega arith) (omega (arith, l)))
      stands l f r c (inr m) = run-piece (suc k) c (in-run (suc k) cs r c m)

      deep : is_run_from p (suc k) cs ≡ true → (c : Column) → Mem c (LevelColumn k ∷ cs) → suc k ≤ depth p c
      deep r c (inl e) = subst (λ (z : Column). suc k ≤ depth p z) e (omega arith)
      deep r c (inr m) = (in-run (suc k) cs r c m).deep

      between : is_run_from p (suc k) cs ≡ true → (c d : Column) → Mem c (LevelColumn k ∷ cs) → Mem d (LevelColumn k ∷ cs)
          → (j : ℕ) → depth p c ≤ j → j < depth p d → kind p j ≡ Slot
      between r c d mc (inr md) j x y = (in-run (suc k) cs r d md).slots j (omega (arith, deep r c mc, x)) y
      between r c d mc (inl e) j x y = let z : depth p d ≡ suc k = ap (depth p) (sym e) in absurd (omega (arith, deep r c mc, x, y, z))

-- ---- all packs

-- whether an earlier pack has a column
abbrev in_some : List (List Column) → Column → Bool
in_some before c = list_any (list_any (same_column c)) before

-- two lists without repeats that have no column in common are one such list
once-append : (xs ys : List Column) → each_once xs ≡ true → each_once ys ≡ true → ((c : Column) → Mem c xs → in_pack c ys ≡ false)
    → each_once (xs ++ ys) ≡ true
once-append [] ys a b n = b
once-append (x ∷ xs) ys a b n =
    let o = and_parts (not (in_pack x xs)) (each_once xs) a in
    let apart : (in_pack x xs || in_pack x ys) ≡ false = or_from (in_pack x xs) (in_pack x ys) (not-true (in_pack x xs) o.0) (n x (inl refl)) in
    and_from (not (in_pack x (xs ++ ys))) (each_once (xs ++ ys)) (ap not (list_any-append (same_column x) xs ys ∙ apart)) (once-append xs ys o.1 b (λ c m. n c (inr m)))

each-passes : (t : Column → Bool) (cs : List Column) → list_all t cs ≡ true → (c : Column) → Mem c cs → t c ≡ true
each-passes t [] h c m = absurd m
each-passes t (x ∷ xs) h c (inl e) = subst (λ (z : Column). t z ≡ true) e (and_parts (t x) (list_all t xs) h).0
each-passes t (x ∷ xs) h c (inr m) = each-passes t xs (and_parts (t x) (list_all t xs) h).1 c m

join-in : (c : Column) (packs : List (List Column)) → Mem c (join packs) → (pack : List Column) × Mem pack packs × Mem c pack
join-in c [] h = absurd h
join-in c (pack ∷ packs) h = go (Mem-either c pack (join packs) h) (join-in c packs)
  where
    go : (Mem c pack ⊎ Mem c (join packs)) → (Mem c (join packs) → (x : List Column) × Mem x packs × Mem c x) → (x : List Column) × Mem x (pack ∷ packs) × Mem c x
    go (inl m) ih = (pack, inl refl, m)
    go (inr m) ih = let r = ih m in (r.0, inr r.1, r.2)

module _ (p : Part) where
  -- what the packs behind others say, where each passes the rule
  record PacksBehind (before packs : List (List Column)) : Type 0 where
    pub each : (pack : List Column) → Mem pack packs → PackLaws p pack
    pub once : each_once (join packs) ≡ true
    pub new : (c : Column) → Mem c (join packs) → in_some before c ≡ false

  packs-behind : (before : List (List Column)) (k : ℕ) (packs : List (List Column)) → first_failing (is_lawful_pack p) before k packs ≡ None
      → PacksBehind before packs
  packs-behind before k [] h = record { each = λ pack m. absurd m; once = refl; new = λ c m. absurd m }
  packs-behind before k (pack ∷ packs) h = go (is_lawful_pack p before pack) refl h (λ q. packs-behind (before ++ pack ∷ []) (suc k) packs q)
    where
      go : (b : Bool) → is_lawful_pack p before pack ≡ b
          → cond b (first_failing (is_lawful_pack p) (before ++ pack ∷ []) (suc k) packs) (Some k) ≡ None
          → (first_failing (is_lawful_pack p) (before ++ pack ∷ []) (suc k) packs ≡ None → PacksBehind (before ++ pack ∷ []) packs) → PacksBehind before (pack ∷ packs)
      go false e q ih = absurd (cc)
      go true e q ih =
          let a = and_parts (nat_le 2 (length pack)) _ e in
          let b = and_parts (is_run p pack) (list_all (λ c. not (in_some before c)) pack) a.1 in
          let laws : PackLaws p pack = pack-laws p pack b.0 in
          let rest : PacksBehind (before ++ pack ∷ []) packs = ih q in
          record {
            each = λ x m. one laws rest x m;
            once = once-append pack (join packs) laws.once rest.once (λ c m. apart rest c m (in_pack c (join packs)) refl);
            new = λ c m. fresh_column rest b.1 c (Mem-either c pack (join packs) m);
          }
        where
          parts : PacksBehind (before ++ pack ∷ []) packs → (c : Column) → Mem c (join packs)
              → (in_some before c ≡ false) × ((in_pack c pack || false) ≡ false)
          parts r c m = or-false (in_some before c) (in_pack c pack || false) (sym (list_any-append (list_any (same_column c)) before (pack ∷ [])) ∙ r.new c m)

          apart : PacksBehind (before ++ pack ∷ []) packs → (c : Column) → Mem c pack → (t : Bool) → in_pack c (join packs) ≡ t → t ≡ false
          apart r c m false w = refl
          apart r c m true w =
              let k : (in_pack c pack || false) ≡ false = (parts r c (pack-Mem c (join packs) w)).1 in
              absurd (false≢true (sym (or-false (in_pack c pack) false k).0 ∙ Mem-pack c pack m))

          fresh_column : PacksBehind (before ++ pack ∷ []) packs → list_all (λ c. not (in_some before c)) pack ≡ true → (c : Column)
              → (Mem c pack ⊎ Mem c (join packs)) → in_some before c ≡ false
          fresh_column r w c (inl m) = not-true (in_some before c) (each-passes (λ c. not (in_some before c)) pack w c m)
          fresh_column r w c (inr m) = (parts r c m).0

          one : PackLaws p pack → PacksBehind (before ++ pack ∷ []) packs → (x : List Column) → Mem x (pack ∷ packs) → PackLaws p x
          one l r x (inl w) = subst (PackLaws p) w l
          one l r x (inr m) = r.each x m

  -- packs that pass the rule are lawful
  pub packs-lawful : (k : ℕ) → first_failing (is_lawful_pack p) [] k p.packs ≡ None → ArePacksLawful p
  packs-lawful k h =
      let r = packs-behind [] k p.packs h in record {
        columns = Mem-all (λ c. is_piece p c ≡ true) (join p.packs)
            (λ c m. let f = join-in c p.packs m in Mem-any same_piece same_piece-true same_piece-self (CellsOf c) (pieces p) ((r.each f.0 f.1).stand c f.2));
        once = r.once;
        aligned = Mem-all (IsAligned p) p.packs (λ pack m. (r.each pack m).aligned);
      }
