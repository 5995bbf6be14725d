-- The parts of a divided declaration, one after the other.
use Rattle.std.proofs.Common.{◌≡◌, ℕ, zero, suc, ◌+◌, ◌<◌, ◌≤◌, List, [], ◌∷◌, ◌++◌, length, map, take, drop, get_or, refl, sym, ap, subst, ◌∙◌, add-one, arith, All}
use Rattle.std.specs.Prelude.{Option, None}
use Rattle.std.specs.List.{sum_by}
use Rattle.std.proofs.Math.Seq.{drop-cons, take-suc}
use Rattle.std.proofs.Math.ListN.{drop_of_length-le}
use Rattle.std.proofs.lemmas.List.{map-append, take_all}
use Rattle.std.proofs.lemmas.List.Sums.{sum_by-append, sum_by-cons}
use Rattle.us_decl.specs.declared.decl.Part as held
use Rattle.us_format.specs.Lists.{or_else}
use Rattle.us_format.specs.Declaration.{Part}
use Rattle.us_judge.specs.declared.refusal.Refusal.{Refusal}
use Rattle.us_judge.specs.declared.refusal.JudgeFault.{JudgeFault}
use Rattle.us_judge.specs.declared.refusal.JudgeFault.TheVariants.{Refused, Memory}
use Rattle.us_judge.specs.Acceptance.{refusal_by, part_rules, parts_refusal}
use Rattle.us_judge.specs.Causes.{Explains}
use Rattle.us_judge.specs.Short.{IsShort, AreShort}
use Rattle.us_judge.specs.Views.{plain_part}

-- ---- one part of a list

pub short-at : (ps : List held.Part) (k : ℕ) (p : held.Part) → AreShort (map plain_part ps) → k < length ps → p ≡ get_or ps k p → IsShort (plain_part p)
short-at [] k p h below is = absurd (omega arith)
short-at (x ∷ xs) zero p h below is = subst (λ (y : held.Part). IsShort (plain_part y)) (sym is) h.0
short-at (x ∷ xs) (suc k) p h below is = short-at xs k p h.1 (omega arith) is

pub all-at : (P : Part → Type 0) (ps : List held.Part) (k : ℕ) (p : held.Part) → All P (map plain_part ps) → k < length ps → p ≡ get_or ps k p → P (plain_part p)
all-at P ps k p h below is = subst P (at ps k below is) (h k (plain_part p) (long ps k below))
  where
    long : (xs : List held.Part) (i : ℕ) → i < length xs → i < length (map plain_part xs)
    long [] i b = b
    long (x ∷ xs) zero b = omega arith
    long (x ∷ xs) (suc i) b = let h : i < length (map plain_part xs) = long xs i (omega arith) in omega arith

    at : (xs : List held.Part) (i : ℕ) → i < length xs → p ≡ get_or xs i p → get_or (map plain_part xs) i (plain_part p) ≡ plain_part p
    at [] i b e = refl
    at (x ∷ xs) zero b e = ap plain_part (sym e)
    at (x ∷ xs) (suc i) b e = at xs i (omega arith) e

-- what was made of a part
pub made-at : {Y : Type 0} (f : Part → Y) (ps : List held.Part) (ys : List Y) (k : ℕ) (p : held.Part) (y : Y) → ys ≡ map f (map plain_part ps) → k < length ps → p ≡ get_or ps k p → y ≡ get_or ys k y → y ≡ f (plain_part p)
made-at f ps ys k p y made below is here = here ∙ ap (λ (zs : List _). get_or zs k y) made ∙ at ps k below is
  where
    at : (xs : List held.Part) (i : ℕ) → i < length xs → p ≡ get_or xs i p → get_or (map f (map plain_part xs)) i y ≡ f (plain_part p)
    at [] i b e = absurd (omega arith)
    at (x ∷ xs) zero b e = ap (λ (q : held.Part). f (plain_part q)) (sym e)
    at (x ∷ xs) (suc i) b e = at xs i (omega arith) e

-- ---- what is made of each part

-- one part more
pub mapped-next : {Y : Type 0} (f : Part → Y) (ps : List held.Part) (k : ℕ) (p : held.Part) → k < length ps → p ≡ get_or ps k p → map f (map plain_part (take (k + 1) ps)) ≡ map f (map plain_part (take k ps)) ++ (f (plain_part p) ∷ [])
mapped-next f ps k p below is =
    let longer : take (k + 1) ps ≡ take k ps ++ (p ∷ []) = rw (add-one) (take-suc ps k p below ∙ ap (λ (x : held.Part). take k ps ++ (x ∷ [])) (sym is)) in
    ap (λ (xs : List held.Part). map f (map plain_part xs)) longer ∙ ap (map f) (map-append plain_part (take k ps) (p ∷ [])) ∙ map-append f (map plain_part (take k ps)) (plain_part p ∷ [])

pub mapped-all : {Y : Type 0} (f : Part → Y) (ps : List held.Part) (k : ℕ) → length ps ≤ k → map f (map plain_part (take k ps)) ≡ map f (map plain_part ps)
mapped-all f ps k past = ap (λ (xs : List held.Part). map f (map plain_part xs)) (take_all k ps past)

pub pushed-next : {Y : Type 0} (f : Part → Y) (ps : List held.Part) (k : ℕ) (p : held.Part) (ys zs : List Y) (y : Y) → k < length ps → p ≡ get_or ps k p → ys ≡ map f (map plain_part (take k ps)) → y ≡ f (plain_part p) → zs ≡ ys ++ (y ∷ []) → zs ≡ map f (map plain_part (take (k + 1) ps))
pushed-next f ps k p ys zs y below is before here pushed =
    pushed ∙ ap (λ (xs : List _). xs ++ (y ∷ [])) before ∙ ap (λ (x : _). map f (map plain_part (take k ps)) ++ (x ∷ [])) here ∙ sym (mapped-next f ps k p below is)

pub summed-next : (f : Part → ℕ) (ps : List held.Part) (k : ℕ) (p : held.Part) → k < length ps → p ≡ get_or ps k p → sum_by f (map plain_part (take (k + 1) ps)) ≡ sum_by f (map plain_part (take k ps)) + f (plain_part p)
summed-next f ps k p below is =
    let longer : take (k + 1) ps ≡ take k ps ++ (p ∷ []) = rw (add-one) (take-suc ps k p below ∙ ap (λ (x : held.Part). take k ps ++ (x ∷ [])) (sym is)) in
    let split : map plain_part (take (k + 1) ps) ≡ map plain_part (take k ps) ++ (plain_part p ∷ []) = ap (λ (xs : List held.Part). map plain_part xs) longer ∙ map-append plain_part (take k ps) (p ∷ []) in
    omega (arith, ap (sum_by f) split, sum_by-append f (map plain_part (take k ps)) (plain_part p ∷ []), sum_by-cons f (plain_part p) [])

pub summed-all : (f : Part → ℕ) (ps : List held.Part) (k : ℕ) → length ps ≤ k → sum_by f (map plain_part (take k ps)) ≡ sum_by f (map plain_part ps)
summed-all f ps k past = ap (λ (xs : List held.Part). sum_by f (map plain_part xs)) (take_all k ps past)

-- ---- the refusal of parts

explained : (fault : JudgeFault) (a b : Option Refusal) → Explains fault a → Explains fault (or_else a b)
explained (Refused r) a b e = ap (λ (x : Option Refusal). or_else x b) e
explained Memory a b e = tt

-- the refusal of the parts from the part k on
from-part : (ps : List held.Part) (k : ℕ) (p : held.Part) → k < length ps → p ≡ get_or ps k p
    → parts_refusal (k + 1) (map plain_part (drop k ps)) ≡ or_else (refusal_by part_rules (k + 1) (plain_part p)) (parts_refusal (suc (k + 1)) (map plain_part (drop (suc k) ps)))
from-part ps k p below is = ap (λ (xs : List held.Part). parts_refusal (k + 1) (map plain_part xs)) (drop-cons ps k p below ∙ ap (λ (x : held.Part). x ∷ drop (suc k) ps) (sym is))

pub refused-at : (fault : JudgeFault) (all : Option Refusal) (ps : List held.Part) (k : ℕ) (p : held.Part) → k < length ps → p ≡ get_or ps k p → all ≡ parts_refusal (k + 1) (map plain_part (drop k ps))
    → Explains fault (refusal_by part_rules (k + 1) (plain_part p)) → Explains fault all
refused-at fault all ps k p below is before h =
    subst (λ (x : Option Refusal). Explains fault x) (sym (before ∙ from-part ps k p below is))
    (explained fault (refusal_by part_rules (k + 1) (plain_part p)) (parts_refusal (suc (k + 1)) (map plain_part (drop (suc k) ps))) h)

pub accepted-next : (all : Option Refusal) (ps : List held.Part) (k : ℕ) (p : held.Part) → k < length ps → p ≡ get_or ps k p → all ≡ parts_refusal (k + 1) (map plain_part (drop k ps))
    → refusal_by part_rules (k + 1) (plain_part p) ≡ None → all ≡ parts_refusal (k + 1 + 1) (map plain_part (drop (k + 1) ps))
accepted-next all ps k p below is before h =
    let number : suc (k + 1) ≡ k + 1 + 1 = omega arith in
    let place : suc k ≡ k + 1 = omega arith in
    let next : parts_refusal (suc (k + 1)) (map plain_part (drop (suc k) ps)) ≡ parts_refusal (k + 1 + 1) (map plain_part (drop (k + 1) ps)) =
    ap (λ (n : ℕ). parts_refusal n (map plain_part (drop (suc k) ps))) number ∙ ap (λ (n : ℕ). parts_refusal (k + 1 + 1) (map plain_part (drop n ps))) place in
    before ∙ from-part ps k p below is ∙ ap (λ (x : Option Refusal). or_else x (parts_refusal (suc (k + 1)) (map plain_part (drop (suc k) ps)))) h ∙ next

pub accepted-all : (all : Option Refusal) (ps : List held.Part) (k : ℕ) → length ps ≤ k → all ≡ parts_refusal (k + 1) (map plain_part (drop k ps)) → all ≡ None
accepted-all all ps k past before = before ∙ ap (λ (xs : List held.Part). parts_refusal (k + 1) (map plain_part xs)) (drop_of_length-le ps past)
