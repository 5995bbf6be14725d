-- Tests of lists, an item at a time.
use Rattle.std.proofs.Common.{◌≡◌, ℕ, ◌+◌, ◌<◌, ◌≤◌, Bool, true, false, cond, ◌&&◌, ◌||◌, not, nat_eq, List, [], ◌∷◌, ◌++◌, length, get_or, take, drop, refl, sym, ap, ap₂, ◌∙◌, arith}
use Rattle.std.specs.Ordering.{nat_cmp, is_eq}
use Rattle.std.proofs.lemmas.Bool.Decides.{nat_tests}
use Rattle.std.proofs.lemmas.List.{at_drop_more, at_drop_all, take_more}
use Rattle.us_code.specs.declared.program.Buf.{Buf}
use Rattle.us_code.specs.Typing.{Context, sees_buf, sees_bufs, same_dim, same_buf, len_of, are_keys, is_some, sees_all, is_listed, are_distinct}

pub bufs_first : (g : Context) (xs : List Buf) (k : ℕ) (b : Buf) → k < length xs → b ≡ get_or xs k b → sees_bufs g (drop k xs) ≡ (sees_buf g b && sees_bufs g (drop (k + 1) xs))
bufs_first g xs k b h e = at_drop_more (sees_bufs g) xs k b h ∙ ap (λ (x : Buf). sees_buf g x && sees_bufs g (drop (k + 1) xs)) (sym e)

pub bufs_end : (g : Context) (xs : List Buf) (k : ℕ) → length xs ≤ k → sees_bufs g (drop k xs) ≡ true
bufs_end g xs k h = at_drop_all (sees_bufs g) xs k h

pub keys_first : (g : Context) (o : Buf) (xs : List Buf) (k : ℕ) (b : Buf) → k < length xs → b ≡ get_or xs k b → are_keys g o (drop k xs) ≡ ((same_dim (len_of g b) (len_of g o) && not (same_buf b o)) && are_keys g o (drop (k + 1) xs))
keys_first g o xs k b h e = at_drop_more (are_keys g o) xs k b h ∙ ap (λ (x : Buf). (same_dim (len_of g x) (len_of g o) && not (same_buf x o)) && are_keys g o (drop (k + 1) xs)) (sym e)

pub keys_end : (g : Context) (o : Buf) (xs : List Buf) (k : ℕ) → length xs ≤ k → are_keys g o (drop k xs) ≡ true
keys_end g o xs k h = at_drop_all (are_keys g o) xs k h

pub all_first : (g : Context) (xs : List ℕ) (k : ℕ) (d : ℕ) → k < length xs → sees_all g (drop k xs) ≡ (is_some (g.bufs (get_or xs k d)) && sees_all g (drop (k + 1) xs))
all_first g xs k d h = at_drop_more (sees_all g) xs k d h

pub all_end : (g : Context) (xs : List ℕ) (k : ℕ) → length xs ≤ k → sees_all g (drop k xs) ≡ true
all_end g xs k h = at_drop_all (sees_all g) xs k h

-- a number behind a list
listed_last : (q : ℕ) (xs : List ℕ) (y : ℕ) → is_listed q (xs ++ y ∷ []) ≡ is_listed q xs || nat_eq q y
listed_last q [] y = elim (nat_eq q y) as (λ (b : Bool). b || false ≡ false || b) [ true ↦ refl | false ↦ refl ]
listed_last q (x ∷ xs) y = ap (λ (b : Bool). nat_eq q x || b) (listed_last q xs y) ∙ or_or (nat_eq q x) (is_listed q xs) (nat_eq q y)
  where
    or_or : (a b c : Bool) → a || (b || c) ≡ (a || b) || c
    or_or true b c = refl
    or_or false b c = refl

same_turned : (x y : ℕ) → nat_eq x y ≡ nat_eq y x
same_turned x y = grind (arith, nat_tests)

distinct_last : (xs : List ℕ) (y : ℕ) → are_distinct (xs ++ y ∷ []) ≡ are_distinct xs && not (is_listed y xs)
distinct_last [] y = refl
distinct_last (x ∷ xs) y =
    ap₂ (λ (a b : Bool). not a && b) (listed_last x xs y ∙ ap (λ (b : Bool). is_listed x xs || b) (same_turned x y)) (distinct_last xs y)
    ∙ parts (is_listed x xs) (nat_eq y x) (are_distinct xs) (is_listed y xs)
  where
    parts : (p q d l : Bool) → not (p || q) && (d && not l) ≡ (not p && d) && not (q || l)
    parts true q d l = refl
    parts false true true l = refl
    parts false true false l = refl
    parts false false d l = refl

pub distinct_more : (xs : List ℕ) (k d : ℕ) → k < length xs → are_distinct (take (k + 1) xs) ≡ are_distinct (take k xs) && not (is_listed (get_or xs k d) (take k xs))
distinct_more xs k d h = ap are_distinct (take_more xs k d h) ∙ distinct_last (take k xs) (get_or xs k d)

-- a set of the numbers so far, with one more
pub listed_more : (xs : List ℕ) (k d : ℕ) (old new : ℕ → Bool) → k < length xs → ((q : ℕ) → new q ≡ cond (is_eq (nat_cmp (get_or xs k d) q)) true (old q)) → ((q : ℕ) → old q ≡ is_listed q (take k xs)) → (q : ℕ) → new q ≡ is_listed q (take (k + 1) xs)
listed_more xs k d old new h a b q =
    a q ∙ (ap₂ (λ (x y : Bool). cond x true y) (same_key (get_or xs k d) q) (b q)
    ∙ (turned (nat_eq q (get_or xs k d)) (is_listed q (take k xs))
    ∙ sym (ap (is_listed q) (take_more xs k d h) ∙ listed_last q (take k xs) (get_or xs k d))))
  where
    same_key : (r q : ℕ) → is_eq (nat_cmp r q) ≡ nat_eq q r
    same_key r q = grind (arith, nat_tests)

    turned : (x y : Bool) → cond x true y ≡ y || x
    turned true true = refl
    turned true false = refl
    turned false true = refl
    turned false false = refl

pub distinct_next : (xs : List ℕ) (k d : ℕ) (was now first : Bool) → k < length xs → was ≡ are_distinct (take k xs) → first ≡ not (is_listed (get_or xs k d) (take k xs)) → now ≡ was && first → now ≡ are_distinct (take (k + 1) xs)
distinct_next xs k d was now first h a b c = c ∙ (ap₂ (λ (x y : Bool). x && y) a b ∙ sym (distinct_more xs k d h))

pub ruleset all = (all_first, all_end)

pub ruleset bufs = (bufs_first, bufs_end)

pub ruleset keys = (keys_first, keys_end)
