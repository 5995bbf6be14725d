-- The parts of an accepted declaration are orderly.
use Rattle.std.proofs.Common.{◌≡◌, ℕ, zero, suc, ◌<◌, List, [], ◌∷◌, ◌++◌, length, get_or, take, Bool, true, false, cond, not, eqb, ◌||◌, Some, None, refl, sym, ap, ◌∙◌, zero-add, append_assoc, arith, All}
use Rattle.std.specs.List.{list_any, range_with_len}
use Rattle.std.proofs.lemmas.Bool.Decides.{nat_tests}
use Rattle.std.proofs.lemmas.List.{append-nil}
use Rattle.std.proofs.lemmas.List.FromFn.{get_or-range_with_len, length-range_with_len}
use Rattle.us_expr.specs.Tree.{Tree, RowIndex, ColIndex, Number, Variable, Sum, Difference, Quotient, Remainder, uses}
use Rattle.us_format.specs.Lists.{among}
use Rattle.us_format.specs.Declaration.{Query, SumOf, Enumerate, Reorder, Schedule, Part}
use Rattle.us_format.specs.Kinds.{is_loose}
use Rattle.us_format.proofs.Lookup.{eqb-false_sym, not-true, or-false}
use Rattle.us_decl.specs.Declares.{Declared, IsValid}
use Rattle.us_judge.specs.Acceptance.{bad_count, bad_order, bad_whole, counting_variables, first_failing, first_level, first_refusal, is_variable, stays_loose, uses_none}
use Rattle.us_judge.specs.Views.{declaration_of}
use Rattle.us_judge.proofs.Accepted.{KeepsRules, accepted-keeps, all-pass, each-used, passed}
use Rattle.us_judge.proofs.LawfulDeclarations.{accepted-lawful, accepted-packs}
use Rattle.us_judge.proofs.Looseness.{take-range}
use Rattle.us_judge.proofs.Valid.{queries-valid}
use Rattle.us_gen_places.specs.Places.{counting_query}
use Rattle.us_gen_places.specs.Holds.{IsOrderly, IsWhole}
use Rattle.us_gen_parts.specs.Orderly.{AcceptedIsOrderly}

-- ---- variables

-- a variable that no query counts up has no such query
not_counting : (qs : List Query) (k v : ℕ) → among v (counting_variables qs) ≡ false → counting_query k qs v ≡ None
not_counting [] k v h = refl
not_counting (SumOf w e ∷ qs) k v h = not_counting qs (suc k) v h
not_counting (Enumerate w e ∷ qs) k v h =
    let a = or-false (eqb v w) (among v (counting_variables qs)) h in
    rw (eqb-false_sym v w a.0) (not_counting qs (suc k) v a.1)
not_counting (Reorder w e ∷ qs) k v h = go (eqb w v) (not_counting qs (suc k) v h)
  where
    go : (c : Bool) → counting_query (suc k) qs v ≡ None → cond c None (counting_query (suc k) qs v) ≡ None
    go true ih = refl
    go false ih = ih
not_counting (Schedule l u e lanes ∷ qs) k v h =
    let a = or-false (eqb v u) (among v (counting_variables qs)) h in
    go (eqb l v) (eqb u v) (eqb-false_sym v u a.0) (not_counting qs (suc k) v a.1)
  where
    go : (c d : Bool) → d ≡ false → counting_query (suc k) qs v ≡ None → cond c None (cond d (Some k) (counting_query (suc k) qs v)) ≡ None
    go true d q ih = refl
    go false true q ih = absurd cc
    go false false q ih = ih

module _ (qs : List Query) where
  none_used : (e : Tree) (v : ℕ) → uses_none (counting_variables qs) e ≡ true → uses e v ≡ true → counting_query 0 qs v ≡ None
  none_used e v h u = not_counting qs 0 v (not-true (among v (counting_variables qs)) (each-used (λ w. not (among w (counting_variables qs))) e v h u))

  whole : (e : Tree) → (is_variable e || uses_none (counting_variables qs) e) ≡ true → IsWhole qs e
  whole (Variable w) h v u n = ap Variable (same w v u)
    where
      same : (w v : ℕ) → uses (Variable w) v ≡ true → w ≡ v
      same w v u = grind (arith, nat_tests)
  whole RowIndex h v u n = absurd (n (none_used RowIndex v h u))
  whole ColIndex h v u n = absurd (n (none_used ColIndex v h u))
  whole (Number c) h v u n = absurd (n (none_used (Number c) v h u))
  whole (Sum a b) h v u n = absurd (n (none_used (Sum a b) v h u))
  whole (Difference a b) h v u n = absurd (n (none_used (Difference a b) v h u))
  whole (Quotient a k) h v u n = absurd (n (none_used (Quotient a k) v h u))
  whole (Remainder a k) h v u n = absurd (n (none_used (Remainder a k) v h u))

-- ---- loose levels

-- where no item fails, each passes behind those before it
each_passes : {A : Type 0} (test : List A → A → Bool) (before : List A) (k : ℕ) (xs : List A) (i : ℕ) (d : A) → first_failing test before k xs ≡ None → i < length xs
    → test (before ++ take i xs) (get_or xs i d) ≡ true
each_passes test before k [] i d h l = absurd (omega (arith, l))
each_passes {A} test before k (x ∷ xs) zero d h l = ap (λ (b : List A). test b x) (append-nil before) ∙ (passed (test before x) k (first_failing test (before ++ x ∷ []) (suc k) xs) h).0
each_passes {A} test before k (x ∷ xs) (suc i) d h l =
    ap (λ (b : List A). test b (get_or xs i d)) (sym (append_assoc before (x ∷ []) (take i xs)))
    ∙ each_passes test (before ++ x ∷ []) (suc k) xs i d (passed (test before x) k (first_failing test (before ++ x ∷ []) (suc k) xs) h).1 (omega (arith, l))

some_passes : {A : Type 0} (test : A → Bool) (xs : List A) (i : ℕ) (d : A) → i < length xs → test (get_or xs i d) ≡ true → list_any test xs ≡ true
some_passes test [] i d l h = absurd (omega (arith, l))
some_passes test (x ∷ xs) zero d l h = rw h refl
some_passes test (x ∷ xs) (suc i) d l h = go (test x) (some_passes test xs i d (omega (arith, l)) h)
  where
    go : (b : Bool) → list_any test xs ≡ true → (b || list_any test xs) ≡ true
    go true ih = refl
    go false ih = ih

module _ (p : Part) (kept : KeepsRules p) where
  next_loose : (k : ℕ) → suc k < length p.levels → is_loose p k ≡ true → is_loose p (suc k) ≡ true
  next_loose k l loose =
      let ordered : bad_order p ≡ None = kept 8 (1, bad_count) (omega arith) in
      let n : suc k < length (range_with_len 0 (length p.levels)) = omega (arith, l, length-range_with_len 0 (length p.levels)) in
      let t : stays_loose p ([] ++ take (suc k) (range_with_len 0 (length p.levels))) (get_or (range_with_len 0 (length p.levels)) (suc k) 0) ≡ true =
      each_passes (stays_loose p) [] (first_level p) (range_with_len 0 (length p.levels)) (suc k) 0 ordered n in
      let e : stays_loose p (range_with_len 0 (suc k)) (suc k) ≡ true =
      ap (λ (xs : List ℕ). stays_loose p xs (suc k)) (sym (take-range 0 (length p.levels) (suc k) (omega (arith, l))))
      ∙ ap (stays_loose p (take (suc k) (range_with_len 0 (length p.levels)))) (sym (get_or-range_with_len 0 (length p.levels) (suc k) 0 l ∙ zero-add (suc k))) ∙ t in
      let some : list_any (is_loose p) (range_with_len 0 (suc k)) ≡ true =
      some_passes (is_loose p) (range_with_len 0 (suc k)) k 0 (omega (arith, length-range_with_len 0 (suc k)))
      (ap (is_loose p) (get_or-range_with_len 0 (suc k) k 0 (omega arith) ∙ zero-add k) ∙ loose) in
      sym (ap (λ (b : Bool). not b || is_loose p (suc k)) some) ∙ e

-- all parts of an accepted declaration
pub all-orderly : (d : Declared) → IsValid d → first_refusal (declaration_of d) ≡ None → All IsOrderly (declaration_of d).parts
all-orderly d valid kept k e below =
    let p : Part = get_or (declaration_of d).parts k e in
    let keeps : KeepsRules p = accepted-keeps (declaration_of d) kept k e below in
    let wholes : All (λ e. (is_variable e || uses_none (counting_variables p.queries) e) ≡ true) p.levels =
    all-pass (λ e. is_variable e || uses_none (counting_variables p.queries) e) [] (first_level p) p.levels (let w : bad_whole p ≡ None = keeps 5 (1, bad_count) (omega arith) in w) in
    record {
      lawful = accepted-lawful d valid kept k e below;
      packs = accepted-packs d kept k e below;
      loose = next_loose p keeps;
      whole = λ i e l. whole p.queries (get_or p.levels i e) (wholes i e l);
      few = queries-valid d valid k e below;
    }

pub accepted-orderly : AcceptedIsOrderly
accepted-orderly d valid kept k below = all-orderly d valid kept k _ below
