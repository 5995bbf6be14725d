-- Queries that define each variable once.
use Rattle.std.proofs.Common.{◌≡◌, ℕ, suc, List, [], ◌∷◌, ◌++◌, Bool, true, false, not, eqb, refl, sym, subst, ap, ◌∙◌, append_assoc}
use Rattle.std.specs.Prelude.{None}
use Rattle.std.specs.List.{list_all}
use Rattle.std.proofs.lemmas.Bool.{and_from, and_parts, or_from}
use Rattle.std.proofs.lemmas.List.{append-nil}
use Rattle.std.proofs.lemmas.List.Folds.{list_any-append}
use Rattle.us_format.specs.Lists.{all_different, among}
use Rattle.us_format.specs.Declaration.{Query, argument, defined, defines}
use Rattle.us_format.proofs.Lookup.{eqb-false_sym, not-true, or-false}
use Rattle.us_judge.specs.Acceptance.{defines_new, first_failing, is_defined_once, uses_only}
use Rattle.us_judge.proofs.Accepted.{passed}

-- ---- lists of numbers

not-from : (b : Bool) → b ≡ false → not b ≡ true
not-from b e = ap not e

-- a number that is none of a list, which has none of another either
apart-one : (x : ℕ) (xs ys : List ℕ) → list_all (λ v. not (among v (x ∷ xs))) ys ≡ true → (among x ys ≡ false) × (list_all (λ v. not (among v xs)) ys ≡ true)
apart-one x xs [] h = (refl, refl)
apart-one x xs (y ∷ ys) h =
    let p = and_parts (not (among y (x ∷ xs))) (list_all (λ v. not (among v (x ∷ xs))) ys) h in
    let q = or-false (eqb y x) (among y xs) (not-true (among y (x ∷ xs)) p.0) in
    let r = apart-one x xs ys p.1 in (
      or_from (eqb x y) (among x ys) (eqb-false_sym y x q.0) r.0,
      and_from (not (among y xs)) (list_all (λ v. not (among v xs)) ys) (not-from (among y xs) q.1) r.1,
    )

different-append : (xs ys : List ℕ) → all_different xs ≡ true → all_different ys ≡ true → list_all (λ v. not (among v xs)) ys ≡ true → all_different (xs ++ ys) ≡ true
different-append [] ys d e h = e
different-append (x ∷ xs) ys d e h =
    let p = and_parts (not (among x xs)) (all_different xs) d in
    let a = apart-one x xs ys h in
    let nowhere : among x (xs ++ ys) ≡ false = list_any-append (eqb x) xs ys ∙ or_from (among x xs) (among x ys) (not-true (among x xs) p.0) a.0 in
    and_from (not (among x (xs ++ ys))) (all_different (xs ++ ys)) (not-from (among x (xs ++ ys)) nowhere) (different-append xs ys p.1 e a.1)

-- ---- queries

defined-append : (ps qs : List Query) → defined (ps ++ qs) ≡ defined ps ++ defined qs
defined-append [] qs = refl
defined-append (p ∷ ps) qs = ap (λ vs. defines p ++ vs) (defined-append ps qs) ∙ sym (append_assoc (defines p) (defined ps) (defined qs))

one-more : (ps : List Query) (q : Query) → defined (ps ++ q ∷ []) ≡ defined ps ++ defines q
one-more ps q = defined-append ps (q ∷ []) ∙ ap (λ vs. defined ps ++ vs) (append-nil (defines q))

-- queries of which none defines a variable again define each once, behind others that do
different-from : (before : List Query) (k : ℕ) (qs : List Query) → all_different (defined before) ≡ true → first_failing is_defined_once before k qs ≡ None
    → all_different (defined (before ++ qs)) ≡ true
different-from before k [] d e = subst (λ (ps : List Query). all_different (defined ps) ≡ true) (sym (append-nil before)) d
different-from before k (q ∷ qs) d e =
    let p = passed (is_defined_once before q) k (first_failing is_defined_once (before ++ q ∷ []) (suc k) qs) e in
    let new = (and_parts (uses_only (defined before) (argument q)) (defines_new before q) p.0).1 in
    let both = and_parts (all_different (defines q)) (list_all (λ v. not (among v (defined before))) (defines q)) new in
    let more : all_different (defined (before ++ q ∷ [])) ≡ true = ap all_different (one-more before q) ∙ different-append (defined before) (defines q) d both.0 both.1 in
    subst (λ (ps : List Query). all_different (defined ps) ≡ true) (append_assoc before (q ∷ []) qs) (different-from (before ++ q ∷ []) (suc k) qs more p.1)

pub defined-once : (qs : List Query) → first_failing is_defined_once [] 0 qs ≡ None → all_different (defined qs) ≡ true
defined-once qs e = different-from [] 0 qs refl e
