-- What it says of a declaration that no rule refuses it.
use Rattle.std.proofs.Common.{◌≡◌, ℕ, suc, ◌<◌, List, [], ◌∷◌, ◌++◌, length, Bool, true, false, ◌&&◌, ◌||◌, refl, sym, subst, ◌∙◌, arith}
use Rattle.std.specs.Prelude.{Option, Some, None, if◌then◌else◌, slice_index_or}
use Rattle.std.specs.List.{All, list_all}
use Rattle.std.proofs.lemmas.Bool.Decides.{nat_tests}
use Rattle.std.proofs.lemmas.List.Elements.{All-nil, All-cons}
use Rattle.std.proofs.lemmas.List.Folds.{list_all-append}
use Rattle.us_expr.specs.Tree.{Tree, RowIndex, ColIndex, Number, Variable, Sum, Difference, Quotient, Remainder, uses}
use Rattle.us_format.specs.Lists.{then_do, or_else}
use Rattle.us_format.specs.Declaration.{Part, Declaration}
use Rattle.us_decl.specs.Declares.{Declared, IsValid}
use Rattle.us_judge.specs.Acceptance.{Rule, refusal_by, first_failing, variables, part_rules, head_refusal, parts_refusal, first_refusal}
use Rattle.us_judge.specs.Format.{part_at}
use Rattle.us_judge.specs.Views.{declaration_of}

-- ---- options and tests

pub none_first : {A : Type 0} (a b : Option A) → or_else a b ≡ None → a ≡ None
none_first None b e = refl
none_first (Some x) b e = absurd cc

pub none_second : {A : Type 0} (a b : Option A) → or_else a b ≡ None → b ≡ None
none_second None b e = e
none_second (Some x) b e = absurd cc

not_done : {A B : Type 0} (a : Option A) (f : A → B) → then_do a (λ x. Some (f x)) ≡ None → a ≡ None
not_done None f e = refl
not_done (Some x) f e = absurd cc

pub passed : (b : Bool) (k : ℕ) (rest : Option ℕ) → (if b then rest else Some k) ≡ None → (b ≡ true) × (rest ≡ None)
passed true k rest e = (refl, e)
passed false k rest e = absurd cc

left_of : (a b : Bool) → (a && b) ≡ true → a ≡ true
left_of true b e = refl
left_of false b e = absurd cc

right_of : (a b : Bool) → (a && b) ≡ true → b ≡ true
right_of true b e = e
right_of false b e = absurd cc

-- ---- rules

-- no item fails a test that does not look at the items before
pub all-pass : {A : Type 0} (test : A → Bool) (before : List A) (k : ℕ) (xs : List A) → first_failing (λ _ x. test x) before k xs ≡ None → All (λ x. test x ≡ true) xs
all-pass test before k [] e = All-nil (λ x. test x ≡ true)
all-pass test before k (x ∷ xs) e =
    let p = passed (test x) k (first_failing (λ _ y. test y) (before ++ (x ∷ [])) (suc k) xs) e in
    All-cons (λ y. test y ≡ true) x xs p.0 (all-pass test (before ++ (x ∷ [])) (suc k) xs p.1)

-- each rule of a list is kept
pub all-kept : {A : Type 0} (rules : List (Rule A)) (k : ℕ) (x : A) → refusal_by rules k x ≡ None → All (λ r. r.1 x ≡ None) rules
all-kept [] k x e = All-nil (λ r. r.1 x ≡ None)
all-kept (r ∷ rs) k x e = All-cons (λ r. r.1 x ≡ None) r rs (not_done (r.1 x) _ (none_first _ (refusal_by rs k x) e)) (all-kept rs k x (none_second _ _ e))

-- a part keeps each of its rules
abbrev pub KeepsRules : Part → Type 0
KeepsRules p = All (λ r. r.1 p ≡ None) part_rules

pub parts-keep : (k : ℕ) (ps : List Part) → parts_refusal k ps ≡ None → All KeepsRules ps
parts-keep k [] e = All-nil KeepsRules
parts-keep k (p ∷ ps) e = All-cons KeepsRules p ps (all-kept part_rules k p (none_first _ _ e)) (parts-keep (suc k) ps (none_second (refusal_by part_rules k p) _ e))

pub accepted-keeps : (d : Declaration) → first_refusal d ≡ None → All KeepsRules d.parts
accepted-keeps d e = parts-keep 1 d.parts (none_second (head_refusal d) _ e)

-- ---- variables

same_number : (v w : ℕ) → uses (Variable w) v ≡ true → w ≡ v
same_number v w e = grind (arith, nat_tests)

either : (p q : Bool) (R : Type 0) → (p ≡ true → R) → (q ≡ true → R) → (p || q) ≡ true → R
either true q R f g e = f refl
either false q R f g e = g e

both_pass : (test : ℕ → Bool) (a b : Tree) → list_all test (variables a ++ variables b) ≡ true → (list_all test (variables a) ≡ true) × (list_all test (variables b) ≡ true)
both_pass test a b h =
    let parts : (list_all test (variables a) && list_all test (variables b)) ≡ true = sym (list_all-append test (variables a) (variables b)) ∙ h in
    (left_of (list_all test (variables a)) (list_all test (variables b)) parts, right_of (list_all test (variables a)) (list_all test (variables b)) parts)

-- a variable that stands in an expression passes a test that all its variables pass
pub each-used : (test : ℕ → Bool) (e : Tree) (v : ℕ) → list_all test (variables e) ≡ true → uses e v ≡ true → test v ≡ true
each-used test RowIndex v h u = absurd cc
each-used test ColIndex v h u = absurd cc
each-used test (Number c) v h u = absurd cc
each-used test (Variable w) v h u = subst (λ x. test x ≡ true) (same_number v w u) (left_of (test w) true h)
each-used test (Sum a b) v h u =
    let p = both_pass test a b h in either (uses a v) (uses b v) (test v ≡ true) (each-used test a v p.0) (each-used test b v p.1) u
each-used test (Difference a b) v h u =
    let p = both_pass test a b h in either (uses a v) (uses b v) (test v ≡ true) (each-used test a v p.0) (each-used test b v p.1) u
each-used test (Quotient a k) v h u = each-used test a v h u
each-used test (Remainder a k) v h u = each-used test a v h u

-- ---- levels of an accepted declaration

-- the level l of the part k
abbrev pub level_at : Declared → ℕ → ℕ → Tree
level_at d k l = slice_index_or (part_at (declaration_of d) k).levels l RowIndex

-- a declaration that is valid and accepted has this level
pub record HasLevel (d : Declared) (k l : ℕ) : Type 0 where
  pub valid : IsValid d
  pub accepted : first_refusal (declaration_of d) ≡ None
  pub part : k < length (declaration_of d).parts
  pub level : l < length (part_at (declaration_of d) k).levels
