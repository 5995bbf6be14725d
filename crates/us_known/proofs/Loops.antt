-- What the loops over levels and queries keep.
use Rattle.std.proofs.Common.{◌≡◌, ℕ, zero, suc, ◌+◌, ◌<◌, ◌⊎◌, List, [], ◌∷◌, ◌++◌, map, take, length, get_or, Bool, true, false, sym, refl, ap, ◌∙◌, subst, inl, inr, arith, add-one}
use Rattle.std.specs.Prelude.{slice_set, Contains}
use Rattle.std.proofs.lemmas.Bool.{false≢true, cases_eq}
use Rattle.std.proofs.lemmas.List.{map-append, take_all, get_or-set_same, get_or-set_other, length-set}
use Rattle.us_expr.specs.Tree.{Tree}
use Rattle.us_format.specs.Lists.{join}
use Rattle.us_format.specs.Known.{has, add_all}
use Rattle.us_format.proofs.Order.{Mem}
use Rattle.us_format.proofs.Members.{contains-Mem, Mem-contains, Mem-left, Mem-right, Mem-either}
use Rattle.us_known.specs.declared.table.Node.{Node}
use Rattle.us_known.specs.Table.{tree_at, trees, IsTable, IsNumberOf}
use Rattle.us_known.specs.Rules.{flag}
use Rattle.us_known.specs.Flags.{AddsGiven}
use Rattle.us_known.proofs.NodeTrees.{add_all-append, at-has}

-- the table has what it had, and after it the expressions of the first k items
pub record IsInserted {A : Type 0} (f : A → List Tree) (before now : List Node) (items : List A) (k : ℕ) : Type 0 where
  pub table : IsTable now
  pub trees_are : trees now ≡ add_all (trees before) (join (map f (take k items)))

pub join-append : {A : Type 0} (xs ys : List (List A)) → join (xs ++ ys) ≡ join xs ++ join ys
join-append [] ys = refl
join-append (x ∷ xs) ys = ap (λ l. x ++ l) (join-append xs ys) ∙ assoc x (join xs) (join ys)
  where
    assoc : {A : Type 0} (a b c : List A) → a ++ (b ++ c) ≡ (a ++ b) ++ c
    assoc [] b c = refl
    assoc (z ∷ a) b c = ap (λ l. z ∷ l) (assoc a b c)

pub append-nil : {A : Type 0} (xs : List A) → xs ++ [] ≡ xs
append-nil [] = refl
append-nil (x ∷ xs) = ap (λ l. x ∷ l) (append-nil xs)

pub take-suc : {A : Type 0} (xs : List A) (k : ℕ) (x : A) → k < length xs → x ≡ get_or xs k x → take (suc k) xs ≡ take k xs ++ x ∷ []
take-suc [] k x l e = absurd (omega (arith, l))
take-suc (y ∷ ys) zero x l e = ap (λ z. z ∷ []) (sym e)
take-suc (y ∷ ys) (suc k) x l e = ap (λ l. y ∷ l) (take-suc ys k x (omega (arith, l)) e)

pub take-next : {A : Type 0} (xs : List A) (k : ℕ) (x : A) → k < length xs → x ≡ get_or xs k x → take (k + 1) xs ≡ take k xs ++ x ∷ []
take-next xs k x l e = ap (λ n. take n xs) (add-one k) ∙ take-suc xs k x l e

pub inserted-start : {A : Type 0} (f : A → List Tree) (now : List Node) (items : List A) → IsTable now → IsInserted f now now items 0
inserted-start f now items t = record { table = t; trees_are = refl }

pub inserted-more : {A : Type 0} (f : A → List Tree) (before now after : List Node) (items : List A) (k : ℕ) (x : A) → IsInserted f before now items k → k < length items → x ≡ get_or items k x
    → IsTable after → trees after ≡ add_all (trees now) (f x) → IsInserted f before after items (k + 1)
inserted-more f before now after items k x h l at t e = record {
  table = t;
  trees_are =
      e ∙ ap (λ ts. add_all ts (f x)) h.trees_are ∙ sym (add_all-append (trees before) (join (map f (take k items))) (f x))
      ∙ ap (add_all (trees before))
      (ap (λ l. join (map f (take k items)) ++ l) (sym (append-nil (f x))) ∙ sym (join-append (map f (take k items)) (f x ∷ []))
      ∙ ap join (sym (map-append f (take k items) (x ∷ []))) ∙ ap (λ l. join (map f l)) (sym (take-next items k x l at)));
}

pub inserted-all : {A : Type 0} (f : A → List Tree) (before now : List Node) (items : List A) → IsInserted f before now items (length items) → trees now ≡ add_all (trees before) (join (map f items))
inserted-all f before now items h = h.trees_are ∙ ap (λ l. add_all (trees before) (join (map f l))) (take_all (length items) items (omega arith))

pub map-map : {A B C : Type 0} (f : B → C) (g : A → B) (xs : List A) → map f (map g xs) ≡ map (λ x. f (g x)) xs
map-map f g [] = refl
map-map f g (x ∷ xs) = ap (λ l. f (g x) ∷ l) (map-map f g xs)

-- ---- flags of the given expressions

pub adds-none : (ts : List Tree) (flags : List Bool) → AddsGiven ts [] flags flags
adds-none ts flags = record { same_length = refl; kept = λ k h. h; added = λ k l c. absurd (contains-Mem [] (tree_at ts k) c); only = λ k h. inl h }

pub adds-append : (ts xs ys : List Tree) (a b c : List Bool) → AddsGiven ts xs a b → AddsGiven ts ys b c → AddsGiven ts (xs ++ ys) a c
adds-append ts xs ys a b c p q = record {
  same_length = q.same_length ∙ p.same_length;
  kept = λ k h. q.kept k (p.kept k h);
  added = λ k l h. added k l (Mem-either (tree_at ts k) xs ys (contains-Mem (xs ++ ys) (tree_at ts k) h));
  only = λ k h. only k (q.only k h);
}
  where
    added : (k : ℕ) → k < length a → (Mem (tree_at ts k) xs ⊎ Mem (tree_at ts k) ys) → flag c k ≡ true
    added k l (inl m) = q.kept k (p.added k l (Mem-contains xs (tree_at ts k) m))
    added k l (inr m) = q.added k (subst (λ (n : ℕ). k < n) (sym p.same_length) l) (Mem-contains ys (tree_at ts k) m)

    two : (k : ℕ) → ((flag a k ≡ true) ⊎ Contains xs (tree_at ts k)) → (flag a k ≡ true) ⊎ Contains (xs ++ ys) (tree_at ts k)
    two k (inl h) = inl h
    two k (inr m) = inr (Mem-contains (xs ++ ys) (tree_at ts k) (Mem-left (tree_at ts k) xs ys (contains-Mem xs (tree_at ts k) m)))

    only : (k : ℕ) → ((flag b k ≡ true) ⊎ Contains ys (tree_at ts k)) → (flag a k ≡ true) ⊎ Contains (xs ++ ys) (tree_at ts k)
    only k (inl h) = two k (p.only k h)
    only k (inr m) = inr (Mem-contains (xs ++ ys) (tree_at ts k) (Mem-right (tree_at ts k) xs ys (contains-Mem ys (tree_at ts k) m)))

pub alone : (e x : Tree) → Mem x (e ∷ []) → e ≡ x
alone e x (inl q) = q
alone e x (inr m) = absurd m

-- the flag of the one number of e
pub adds-one : (ns : List Node) (e : Tree) (n : ℕ) (flags : List Bool) → IsTable ns → length flags ≡ length ns → IsNumberOf ns n e → AddsGiven (trees ns) (e ∷ []) flags (slice_set flags n true)
adds-one ns e n flags t l h = record {
  same_length = length-set flags n true;
  kept = λ k f. kept k (cases_eq k n) f;
  added = λ k m c.
      let q : k ≡ n = t.apart k n (omega (arith, m, l)) h.below (sym (alone e (tree_at (trees ns) k) (contains-Mem (e ∷ []) (tree_at (trees ns) k) c)) ∙ sym h.is) in
      subst (λ (z : ℕ). flag (slice_set flags n true) z ≡ true) (sym q) there;
  only = λ k f. only k (cases_eq k n) f;
}
  where
    there : flag (slice_set flags n true) n ≡ true
    there = get_or-set_same flags n true false (omega (arith, l, h.below))

    kept : (k : ℕ) → ((k ≡ n) ⊎ (k ≡ n → ⊥)) → flag flags k ≡ true → flag (slice_set flags n true) k ≡ true
    kept k (inl q) f = subst (λ (z : ℕ). flag (slice_set flags n true) z ≡ true) (sym q) there
    kept k (inr q) f = get_or-set_other flags n k true false q ∙ f

    only : (k : ℕ) → ((k ≡ n) ⊎ (k ≡ n → ⊥)) → flag (slice_set flags n true) k ≡ true → (flag flags k ≡ true) ⊎ Contains (e ∷ []) (tree_at (trees ns) k)
    only k (inl q) f = inr (Mem-contains (e ∷ []) (tree_at (trees ns) k) (inl (sym h.is ∙ ap (tree_at (trees ns)) (sym q))))
    only k (inr q) f = inl (sym (get_or-set_other flags n k true false q) ∙ f)

-- nothing to flag where e is not in the table
pub adds-absent : (ns : List Node) (e : Tree) (flags : List Bool) → IsTable ns → length flags ≡ length ns → has (trees ns) e ≡ false → AddsGiven (trees ns) (e ∷ []) flags flags
adds-absent ns e flags t l n = record {
  same_length = refl;
  kept = λ k h. h;
  added = λ k m c. absurd (false≢true (sym n ∙ subst (λ (z : Tree). has (trees ns) z ≡ true) (sym (alone e (tree_at (trees ns) k) (contains-Mem (e ∷ []) (tree_at (trees ns) k) c))) (at-has ns t k (omega (arith, m, l)))));
  only = λ k h. inl h;
}
