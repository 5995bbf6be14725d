-- Membership by recursion on the list and by index, and in the list of a part's expressions.
use Rattle.std.specs.Prelude.{slice_get}
use Rattle.std.proofs.Common.{◌≡◌, ℕ, zero, suc, ◌⊎◌, List, [], ◌∷◌, ◌++◌, map, Bool, true, false, cond, sym, refl, subst, inl, inr, arith, Some, All}
use Rattle.std.specs.List.{Contains}
use Rattle.us_expr.specs.Tree.{Tree, RowIndex, ColIndex, Number, Variable, Sum, Difference, Quotient, Remainder}
use Rattle.us_format.specs.Lists.{join}
use Rattle.us_format.specs.Known.{has, sub_expressions, add_all}
use Rattle.us_format.proofs.Order.{Mem}

pub contains-Mem : {A : Type 0} (xs : List A) (x : A) → Contains xs x → Mem x xs
contains-Mem [] x (k, l, e) = absurd (omega (arith, l))
contains-Mem (y ∷ ys) x (zero, l, e) = inl e
contains-Mem (y ∷ ys) x (suc k, l, e) = inr (contains-Mem ys x (k, omega (arith, l), e))

pub Mem-contains : {A : Type 0} (xs : List A) (x : A) → Mem x xs → Contains xs x
Mem-contains [] x h = absurd h
Mem-contains (y ∷ ys) x (inl e) = (zero, omega arith, e)
Mem-contains (y ∷ ys) x (inr h) = let r = Mem-contains ys x h in (suc r.0, omega (arith, r.1), r.2)

pub all-Mem : {A : Type 0} (P : A → Type 0) (xs : List A) (x : A) → All P xs → Mem x xs → P x
all-Mem P [] x h m = absurd m
all-Mem P (y ∷ ys) x h (inl e) = subst P e (h 0 y (omega arith))
all-Mem P (y ∷ ys) x h (inr m) = all-Mem P ys x (λ k d l. h (suc k) d (omega (arith, l))) m

pub Mem-all : {A : Type 0} (P : A → Type 0) (xs : List A) → ((x : A) → Mem x xs → P x) → All P xs
Mem-all P [] h k d l = absurd (omega (arith, l))
Mem-all P (x ∷ xs) h zero d l = h x (inl refl)
Mem-all P (x ∷ xs) h (suc k) d l = Mem-all P xs (λ y m. h y (inr m)) k d (omega (arith, l))

pub item-Mem : {A : Type 0} (xs : List A) (k : ℕ) (x : A) → slice_get xs k ≡ Some x → Mem x xs
item-Mem [] k x h = absurd (cc)
item-Mem (y ∷ ys) zero x h = inl (cc)
item-Mem (y ∷ ys) (suc k) x h = inr (item-Mem ys k x h)

pub Mem-left : {A : Type 0} (x : A) (xs ys : List A) → Mem x xs → Mem x (xs ++ ys)
Mem-left x [] ys h = absurd h
Mem-left x (y ∷ xs) ys (inl e) = inl e
Mem-left x (y ∷ xs) ys (inr h) = inr (Mem-left x xs ys h)

pub Mem-right : {A : Type 0} (x : A) (xs ys : List A) → Mem x ys → Mem x (xs ++ ys)
Mem-right x [] ys h = h
Mem-right x (y ∷ xs) ys h = inr (Mem-right x xs ys h)

pub Mem-either : {A : Type 0} (x : A) (xs ys : List A) → Mem x (xs ++ ys) → Mem x xs ⊎ Mem x ys
Mem-either x [] ys h = inr h
Mem-either x (y ∷ xs) ys (inl e) = inl (inl e)
Mem-either x (y ∷ xs) ys (inr h) = go (Mem-either x xs ys h)
  where
    go : (Mem x xs ⊎ Mem x ys) → Mem x (y ∷ xs) ⊎ Mem x ys
    go (inl m) = inl (inr m)
    go (inr m) = inr m

pub Mem-join : {A B : Type 0} (f : B → List A) (x : A) (b : B) (bs : List B) → Mem b bs → Mem x (f b) → Mem x (join (map f bs))
Mem-join f x b [] h m = absurd h
Mem-join {A} {B} f x b (c ∷ bs) (inl e) m = Mem-left x (f c) (join (map f bs)) (subst (λ (z : B). Mem x (f z)) (sym e) m)
Mem-join f x b (c ∷ bs) (inr h) m = Mem-right x (f c) (join (map f bs)) (Mem-join f x b bs h m)

pub join-Mem : {A B : Type 0} (f : B → List A) (x : A) (bs : List B) → Mem x (join (map f bs)) → (b : B) × Mem b bs × Mem x (f b)
join-Mem f x [] h = absurd h
join-Mem {A} {B} f x (c ∷ bs) h = go (Mem-either x (f c) (join (map f bs)) h) (join-Mem f x bs)
  where
    go : (Mem x (f c) ⊎ Mem x (join (map f bs))) → (Mem x (join (map f bs)) → (b : B) × Mem b bs × Mem x (f b)) → (b : B) × Mem b (c ∷ bs) × Mem x (f b)
    go (inl m) ih = (c, inl refl, m)
    go (inr m) ih = let r = ih m in (r.0, inr r.1, r.2)

-- an expression is the last of its sub-expressions
pub self-sub : (e : Tree) → Mem e (sub_expressions e)
self-sub RowIndex = inl refl
self-sub ColIndex = inl refl
self-sub (Number c) = inl refl
self-sub (Variable v) = inl refl
self-sub (Sum a b) = Mem-right (Sum a b) (sub_expressions a) (sub_expressions b ++ Sum a b ∷ []) (Mem-right (Sum a b) (sub_expressions b) (Sum a b ∷ []) (inl refl))
self-sub (Difference a b) =
    Mem-right (Difference a b) (sub_expressions a) (sub_expressions b ++ Difference a b ∷ []) (Mem-right (Difference a b) (sub_expressions b) (Difference a b ∷ []) (inl refl))
self-sub (Quotient a k) = Mem-right (Quotient a k) (sub_expressions a) (Quotient a k ∷ []) (inl refl)
self-sub (Remainder a k) = Mem-right (Remainder a k) (sub_expressions a) (Remainder a k ∷ []) (inl refl)

-- ---- each once

pub added-found : (found es : List Tree) (x : Tree) → Mem x found → Mem x (add_all found es)
added-found found [] x h = h
added-found found (e ∷ es) x h = added-found (cond (has found e) found (found ++ e ∷ [])) es x (go (has found e))
  where
    go : (b : Bool) → Mem x (cond b found (found ++ e ∷ []))
    go true = h
    go false = Mem-left x found (e ∷ []) h

-- what is added was found before or is in the list
pub added-from : (found es : List Tree) (x : Tree) → Mem x (add_all found es) → Mem x found ⊎ Mem x es
added-from found [] x h = inl h
added-from found (e ∷ es) x h = go (has found e) (added-from (cond (has found e) found (found ++ e ∷ [])) es x h)
  where
    go : (b : Bool) → (Mem x (cond b found (found ++ e ∷ [])) ⊎ Mem x es) → Mem x found ⊎ Mem x (e ∷ es)
    go true (inl m) = inl m
    go true (inr m) = inr (inr m)
    go false (inl m) = two (Mem-either x found (e ∷ []) m)
      where
        two : (Mem x found ⊎ Mem x (e ∷ [])) → Mem x found ⊎ Mem x (e ∷ es)
        two (inl k) = inl k
        two (inr (inl q)) = inr (inl q)
        two (inr (inr q)) = absurd q
    go false (inr m) = inr (inr m)
