-- Running numbers and tables of cells.
use Rattle.std.proofs.Common.{◌≡◌, ◌≢◌, ℕ, zero, suc, ◌+◌, ◌<◌, ◌≤◌, Bool, true, false, cond, not, nat_eq, nat_lt, refl, sym, ap, ap₂, ◌∙◌, subst, arith, List, pos, ℤ}
use Rattle.std.specs.Prelude.{slice_index_or, slice_set}
use Rattle.std.proofs.lemmas.Bool.Decides.{nat_tests}
use Rattle.std.proofs.lemmas.List.{get_or-set_same, get_or-set_other, length-set}
use Rattle.us_running.specs.Running.{is_new, counted, seen, below, marked, written, Table}
use Rattle.us_running.specs.Laws.{NumbersAreSmall, AllAreNumbered, MarksAreWritten, CellsAreSet, CellsFollowEntries}

-- ---- tables

pub table_set : CellsAreSet
table_set cells m k v f lt t = record {
  long = length-set cells k v ∙ t.long;
  each = λ y h. at y h (nat_eq k y) refl;
}
  where
    at : (y : ℕ) → y < m → (b : Bool) → nat_eq k y ≡ b → slice_index_or (slice_set cells k v) y (pos 0) ≡ cond b v (f y)
    at y h true e = let s : k ≡ y = grind (arith, nat_tests) in ap (λ (z : ℕ). slice_index_or (slice_set cells k v) z (pos 0)) (sym s) ∙ get_or-set_same cells k v (pos 0) (omega (arith, t.long))
    at y h false e = let s : k ≢ y = grind (arith, nat_tests) in grind (arith, get_or-set_other, t.each y h)

pub table_same : (cells : List ℤ) (m : ℕ) (f g : ℕ → ℤ) → ((y : ℕ) → g y ≡ f y) → Table cells m f → Table cells m g
table_same cells m f g e t = record { long = t.long; each = λ y h. t.each y h ∙ sym (e y) }

pub table_moved : (xs ys : List ℤ) (m : ℕ) (f : ℕ → ℤ) → ys ≡ xs → Table xs m f → Table ys m f
table_moved xs ys m f e t = subst (λ (zs : List ℤ). Table zs m f) (sym e) t

-- ---- running numbers

-- the running number rises by at most one
pub seen_up : (keys : ℕ → ℕ) (x : ℕ) → seen keys x ≤ x
seen_up keys zero = omega arith
seen_up keys (suc x) = case (seen_up keys x) (is_new keys x)
  where
    case : seen keys x ≤ x → (b : Bool) → cond b (seen keys x + 1) (seen keys x) ≤ suc x
    case h true = omega arith
    case h false = omega arith

pub ever : (keys : ℕ → ℕ) (x : ℕ) → 1 ≤ seen keys (suc x)
ever keys zero = omega arith
ever keys (suc x) = case (ever keys x) (is_new keys (suc x))
  where
    case : 1 ≤ seen keys (suc x) → (b : Bool) → 1 ≤ cond b (seen keys (suc x) + 1) (seen keys (suc x))
    case h true = omega arith
    case h false = omega (arith, h)

pub numbers-small : NumbersAreSmall
numbers-small keys x = (ever keys x, seen_up keys x)

pub all-numbered : AllAreNumbered
all-numbered new n h zero le = refl
all-numbered new n h (suc x) le = ap (λ (b : Bool). cond b (counted new x + 1) (counted new x)) (h x (omega (arith, le))) ∙ omega (arith, all-numbered new n h x (omega (arith, le)))

-- ---- what depends on the first n entries alone

pub new_cong : (keys also : ℕ → ℕ) (x n : ℕ) → ((y : ℕ) → y < n → keys y ≡ also y) → x < n → is_new keys x ≡ is_new also x
new_cong keys also zero n e h = refl
new_cong keys also (suc x) n e h = ap₂ (λ (a b : ℕ). not (nat_eq a b)) (e (suc x) h) (e x (omega (arith, h)))

pub counted_cong : (new also : ℕ → Bool) (n : ℕ) → ((y : ℕ) → y < n → new y ≡ also y) → counted new n ≡ counted also n
counted_cong new also zero e = refl
counted_cong new also (suc n) e = ap₂ (λ (b : Bool) (v : ℕ). cond b (v + 1) v) (e n (omega arith)) (counted_cong new also n (λ y h. e y (omega (arith, h))))

pub seen_cong : (keys also : ℕ → ℕ) (n : ℕ) → ((y : ℕ) → y < n → keys y ≡ also y) → seen keys n ≡ seen also n
seen_cong keys also n e = counted_cong (is_new keys) (is_new also) n (λ y h. new_cong keys also y n e h)

pub below_cong : (new also : ℕ → Bool) (at to : ℕ → ℕ) (n p : ℕ) → ((y : ℕ) → y < n → new y ≡ also y) → ((y : ℕ) → y < n → at y ≡ to y) → below new at n p ≡ below also to n p
below_cong new also at to zero p e f = refl
below_cong new also at to (suc n) p e f =
    let i = below_cong new also at to n p (λ y h. e y (omega (arith, h))) (λ y h. f y (omega (arith, h))) in
    ap (λ (b : Bool). cond b (cond (nat_lt (at n) p) (below new at n p + 1) (below new at n p)) (below new at n p)) (e n (omega arith))
    ∙ (ap (λ (a : ℕ). cond (also n) (cond (nat_lt a p) (below new at n p + 1) (below new at n p)) (below new at n p)) (f n (omega arith))
    ∙ ap (λ (k : ℕ). cond (also n) (cond (nat_lt (to n) p) (k + 1) k) k) i)

pub marked_cong : (new also : ℕ → Bool) (at to : ℕ → ℕ) (n p : ℕ) → ((y : ℕ) → y < n → new y ≡ also y) → ((y : ℕ) → y < n → at y ≡ to y) → marked new at n p ≡ marked also to n p
marked_cong new also at to zero p e f = refl
marked_cong new also at to (suc n) p e f =
    let i = marked_cong new also at to n p (λ y h. e y (omega (arith, h))) (λ y h. f y (omega (arith, h))) in
    let c = counted_cong new also n (λ y h. e y (omega (arith, h))) in
    ap (λ (b : Bool). cond b (cond (nat_eq (at n + 1) p) (cond b (counted new n + 1) (counted new n)) (marked new at n p)) (marked new at n p)) (e n (omega arith))
    ∙ (ap (λ (a : ℕ). cond (also n) (cond (nat_eq (a + 1) p) (cond (also n) (counted new n + 1) (counted new n)) (marked new at n p)) (marked new at n p)) (f n (omega arith))
    ∙ (ap (λ (k : ℕ). cond (also n) (cond (nat_eq (to n + 1) p) (cond (also n) (k + 1) k) (marked new at n p)) (marked new at n p)) c
    ∙ ap (λ (k : ℕ). cond (also n) (cond (nat_eq (to n + 1) p) (cond (also n) (counted also n + 1) (counted also n)) k) k) i))

pub written_cong : CellsFollowEntries
written_cong writes also place to f g zero y e q h = refl
written_cong writes also place to f g (suc n) y e q h =
    ap (λ (b : Bool). cond b (cond (nat_eq (place n) y) (f n) (written writes place f n y)) (written writes place f n y)) (e n (omega arith))
    ∙ (ap (λ (a : ℕ). cond (also n) (cond (nat_eq a y) (f n) (written writes place f n y)) (written writes place f n y)) (q n (omega arith))
    ∙ (ap (λ (z : ℤ). cond (also n) (cond (nat_eq (to n) y) z (written writes place f n y)) (written writes place f n y)) (h n (omega arith))
    ∙ ap (λ (z : ℤ). cond (also n) (cond (nat_eq (to n) y) (g n) z) z)
    (written_cong writes also place to f g n y (λ x l. e x (omega (arith, l))) (λ x l. q x (omega (arith, l))) (λ x l. h x (omega (arith, l))))))

-- ---- marks as numbers

pub marks-written : MarksAreWritten
marks-written writes new at zero p e = refl
marks-written writes new at (suc n) p e =
    ap (λ (b : Bool). cond b (cond (nat_eq (at n + 1) p) (pos (counted new (suc n))) (written writes (λ x. at x + 1) (λ x. pos (counted new (suc x))) n p)) (written writes (λ x. at x + 1) (λ x. pos (counted new (suc x))) n p)) (e n (omega arith))
    ∙ (ap (λ (z : ℤ). cond (new n) (cond (nat_eq (at n + 1) p) (pos (counted new (suc n))) z) z) (marks-written writes new at n p (λ x h. e x (omega (arith, h)))) ∙ push (new n) (nat_eq (at n + 1) p) _ _)
  where
    push : (a b : Bool) (c d : ℕ) → cond a (cond b (pos c) (pos d)) (pos d) ≡ pos (cond a (cond b c d) d)
    push true true c d = refl
    push true false c d = refl
    push false b c d = refl
