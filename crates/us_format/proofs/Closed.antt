-- The known expressions are in every set that has the levels and the constants and is closed under the rules.
use Rattle.std.specs.Prelude.{slice_get}
use Rattle.std.proofs.Common.{◌≡◌, ℕ, zero, suc, ◌⊎◌, List, [], ◌∷◌, ◌++◌, length, take, Bool, true, false, cond, sym, refl, subst, inl, inr, Option, Some, None}
use Rattle.std.proofs.lemmas.List.{map-append}
use Rattle.us_format.proofs.Order.{Mem}
use Rattle.us_format.proofs.Trees.{same_tree-true, Mem-has}
use Rattle.us_format.proofs.Rules.{Justified, Fine, fine-rule}
use Rattle.us_expr.specs.Tree.{Difference, Number, Quotient, Remainder, Sum, Tree, Variable}
use Rattle.us_format.specs.Declaration.{axis_of, Query, Reorder, Schedule, index_of}
use Rattle.us_format.specs.Known.{Give, Itself, Joined, Minus, OfLevel, OrderAt, Over, Plus, Rest, RowsAt, Steps, at_start, expressions, given_steps, has, known_of, level_of, one_pass, passes, rule, same_tree, start, step_for, with_step}
use Rattle.us_format.specs.Lists.{then_do}

-- Q is closed under the rules, as far as they lead to expressions that satisfy V
pub record Closed (qs : List Query) (V Q : Tree → Type 0) : Type 0 where
  pub number : (c : ℕ) → V (Number c) → Q (Number c)
  pub sum : (a b : Tree) → V (Sum a b) → Q a → Q b → Q (Sum a b)
  pub difference : (a b : Tree) → V (Difference a b) → Q a → Q b → Q (Difference a b)
  pub quotient : (a : Tree) (k : ℕ) → V (Quotient a k) → Q a → Q (Quotient a k)
  pub remainder : (a : Tree) (k : ℕ) → V (Remainder a k) → Q a → Q (Remainder a k)
  pub left_of_sum : (e b : Tree) → V e → Q (Sum e b) → Q b → Q e
  pub right_of_sum : (b e : Tree) → V e → Q (Sum b e) → Q b → Q e
  pub left_of_difference : (e b : Tree) → V e → Q (Difference e b) → Q b → Q e
  pub right_of_difference : (a e : Tree) → V e → Q a → Q (Difference a e) → Q e
  pub joined : (e : Tree) (k : ℕ) → V e → V (Quotient e k) → Q (Quotient e k) → Q (Remainder e k) → Q e
  pub order : (q w : ℕ) (x : Tree) → slice_get qs q ≡ Some (Reorder w x) → V (index_of (axis_of x)) → Q (Variable w) → Q (index_of (axis_of x))
  pub rows : (q a b : ℕ) (x : Tree) (n : ℕ) → slice_get qs q ≡ Some (Schedule a b x n) → V (index_of (axis_of x)) → Q (Variable a) → Q (Variable b) → Q (index_of (axis_of x))

-- V and Q of each
abbrev pub Both : (V Q : Tree → Type 0) → List Tree → Type 0
Both V Q es = (e : Tree) → Mem e es → V e × Q e

pub justified-closed : (qs : List Query) (V Q : Tree → Type 0) (known : List Tree) (e : Tree) (g : Give) → Closed qs V Q → V e → Both V Q known → Justified qs known e g → Q e
justified-closed qs V Q known e (Itself c) cl v all j = subst Q (sym j) (cl.number c (subst V j v))
justified-closed qs V Q known e (OfLevel k) cl v all j = absurd j
justified-closed qs V Q known e (Plus a b) cl v all (ha, hb, inl p) = subst Q (sym p) (cl.sum a b (subst V p v) (all a (Mem-has known a ha)).1 (all b (Mem-has known b hb)).1)
justified-closed qs V Q known e (Plus a b) cl v all (ha, hb, inr p) = cl.left_of_difference e b v (subst Q p (all a (Mem-has known a ha)).1) (all b (Mem-has known b hb)).1
justified-closed qs V Q known e (Minus a b) cl v all (ha, hb, inl p) = subst Q (sym p) (cl.difference a b (subst V p v) (all a (Mem-has known a ha)).1 (all b (Mem-has known b hb)).1)
justified-closed qs V Q known e (Minus a b) cl v all (ha, hb, inr (inl p)) = cl.left_of_sum e b v (subst Q p (all a (Mem-has known a ha)).1) (all b (Mem-has known b hb)).1
justified-closed qs V Q known e (Minus a b) cl v all (ha, hb, inr (inr (inl p))) = cl.right_of_sum b e v (subst Q p (all a (Mem-has known a ha)).1) (all b (Mem-has known b hb)).1
justified-closed qs V Q known e (Minus a b) cl v all (ha, hb, inr (inr (inr p))) = cl.right_of_difference a e v (all a (Mem-has known a ha)).1 (subst Q p (all b (Mem-has known b hb)).1)
justified-closed qs V Q known e (Joined q r k) cl v all (hq, hr, p, s) =
    cl.joined e k v (subst V p (all q (Mem-has known q hq)).0) (subst Q p (all q (Mem-has known q hq)).1) (subst Q s (all r (Mem-has known r hr)).1)
justified-closed qs V Q known e (Over a k) cl v all (ha, p) = subst Q (sym p) (cl.quotient a k (subst V p v) (all a (Mem-has known a ha)).1)
justified-closed qs V Q known e (Rest a k) cl v all (ha, p) = subst Q (sym p) (cl.remainder a k (subst V p v) (all a (Mem-has known a ha)).1)
justified-closed qs V Q known e (OrderAt q u) cl v all (hu, (w, x, at, p, s)) = subst Q (sym s) (cl.order q w x at (subst V s v) (subst Q p (all u (Mem-has known u hu)).1))
justified-closed qs V Q known e (RowsAt q l t) cl v all (hl, ht, (a, b, x, n, at, p, r, s)) =
    subst Q (sym s) (cl.rows q a b x n at (subst V s v) (subst Q p (all l (Mem-has known l hl)).1) (subst Q r (all t (Mem-has known t ht)).1))

pub Mem-snoc : {A : Type 0} (x y : A) (xs : List A) → Mem x (xs ++ y ∷ []) → Mem x xs ⊎ (y ≡ x)
Mem-snoc x y [] (inl e) = inr e
Mem-snoc x y [] (inr h) = absurd h
Mem-snoc x y (z ∷ xs) (inl e) = inl (inl e)
Mem-snoc x y (z ∷ xs) (inr h) = go (Mem-snoc x y xs h)
  where
    go : (Mem x xs ⊎ (y ≡ x)) → Mem x (z ∷ xs) ⊎ (y ≡ x)
    go (inl m) = inl (inr m)
    go (inr e) = inr e

pub both-snoc : (V Q : Tree → Type 0) (steps : Steps) (e : Tree) (g : Give) → Both V Q (known_of steps) → V e → Q e → Both V Q (known_of (steps ++ (e, g) ∷ []))
both-snoc V Q steps e g all v q x m = go (Mem-snoc x e (known_of steps) (subst (λ (l : List Tree). Mem x l) (map-append (λ (s : Tree × Give). s.0) steps ((e, g) ∷ [])) m))
  where
    go : (Mem x (known_of steps) ⊎ (e ≡ x)) → V x × Q x
    go (inl h) = all x h
    go (inr p) = (subst V p v, subst Q p q)

pub both-step : (V Q : Tree → Type 0) (qs : List Query) (steps : Steps) (e : Tree) (o : Option Give) → Closed qs V Q → V e → Fine qs (known_of steps) e o → Both V Q (known_of steps) → Both V Q (known_of (with_step steps e o))
both-step V Q qs steps e None cl v f all = all
both-step V Q qs steps e (Some g) cl v f all = both-snoc V Q steps e g all v (justified-closed qs V Q (known_of steps) e g cl v all f)

pub both-step_for : (V Q : Tree → Type 0) (es : List Tree) (qs : List Query) (steps : Steps) (e : Tree) → Closed qs V Q → V e → Both V Q (known_of steps) → Both V Q (known_of (step_for es qs steps e))
both-step_for V Q es qs steps e cl v all = go (has (known_of steps) e) (both-step V Q qs steps e (rule es qs (known_of steps) e) cl v (fine-rule es qs (known_of steps) e) all)
  where
    go : (b : Bool) → Both V Q (known_of (with_step steps e (rule es qs (known_of steps) e))) → Both V Q (known_of (cond b steps (with_step steps e (rule es qs (known_of steps) e))))
    go true h = all
    go false h = h

pub both-pass : (V Q : Tree → Type 0) (all_es : List Tree) (qs : List Query) (es : List Tree) (steps : Steps) → Closed qs V Q → ((e : Tree) → Mem e es → V e) → Both V Q (known_of steps) → Both V Q (known_of (one_pass all_es qs es steps))
both-pass V Q all_es qs [] steps cl v all = all
both-pass V Q all_es qs (e ∷ es) steps cl v all = both-pass V Q all_es qs es (step_for all_es qs steps e) cl (λ x m. v x (inr m)) (both-step_for V Q all_es qs steps e cl (v e (inl refl)) all)

pub both-passes : (V Q : Tree → Type 0) (n : ℕ) (es : List Tree) (qs : List Query) (steps : Steps) → Closed qs V Q → ((e : Tree) → Mem e es → V e) → Both V Q (known_of steps) → Both V Q (known_of (passes n es qs steps))
both-passes V Q zero es qs steps cl v all = all
both-passes V Q (suc n) es qs steps cl v all = both-passes V Q n es qs (one_pass es qs es steps) cl v (both-pass V Q es qs es steps cl v all)

pub level_of-Mem : (k : ℕ) (given : List Tree) (e : Tree) (m : ℕ) → level_of k given e ≡ Some m → Mem e given
level_of-Mem k [] e m h = absurd (cc)
level_of-Mem k (l ∷ given) e m h = go (same_tree l e) refl h (level_of-Mem (suc k) given e m)
  where
    go : (b : Bool) → same_tree l e ≡ b → cond b (Some k) (level_of (suc k) given e) ≡ Some m → (level_of (suc k) given e ≡ Some m → Mem e given) → Mem e (l ∷ given)
    go true q h ih = inl (same_tree-true l e q)
    go false q h ih = inr (ih h)

pub both-level : (V Q : Tree → Type 0) (given : List Tree) (steps : Steps) (e : Tree) (o : Option ℕ) → level_of 0 given e ≡ o → ((x : Tree) → Mem x given → V x → Q x) → V e → Both V Q (known_of steps)
    → Both V Q (known_of (with_step steps e (then_do o (λ k. Some (OfLevel k)))))
both-level V Q given steps e None h lv v all = all
both-level V Q given steps e (Some m) h lv v all = both-snoc V Q steps e (OfLevel m) all v (lv e (level_of-Mem 0 given e m h) v)

pub both-start_one : (V Q : Tree → Type 0) (qs : List Query) (given : List Tree) (steps : Steps) (e : Tree) → Closed qs V Q → ((x : Tree) → Mem x given → V x → Q x) → V e → Both V Q (known_of steps) → Both V Q (known_of (with_step steps e (at_start given e)))
both-start_one V Q qs given steps (Number c) cl lv v all = both-snoc V Q steps (Number c) (Itself c) all v (cl.number c v)
both-start_one V Q qs given steps e cl lv v all = both-level V Q given steps e (level_of 0 given e) refl lv v all

pub both-start : (V Q : Tree → Type 0) (qs : List Query) (given es : List Tree) (steps : Steps) → Closed qs V Q → ((x : Tree) → Mem x given → V x → Q x) → ((e : Tree) → Mem e es → V e) → Both V Q (known_of steps) → Both V Q (known_of (start given es steps))
both-start V Q qs given [] steps cl lv v all = all
both-start V Q qs given (e ∷ es) steps cl lv v all = both-start V Q qs given es (with_step steps e (at_start given e)) cl lv (λ x m. v x (inr m)) (both-start_one V Q qs given steps e cl lv (v e (inl refl)) all)

-- each known expression satisfies V and Q
pub known-both : (V Q : Tree → Type 0) (levels : List Tree) (qs : List Query) (count : ℕ) → Closed qs V Q → ((x : Tree) → Mem x (take count levels) → V x → Q x) → ((e : Tree) → Mem e (expressions levels qs) → V e)
    → (e : Tree) → has (known_of (given_steps levels qs count)) e ≡ true → V e × Q e
known-both V Q levels qs count cl lv v e h =
    both-passes V Q (length (expressions levels qs)) (expressions levels qs) qs (start (take count levels) (expressions levels qs) []) cl v
    (both-start V Q qs (take count levels) (expressions levels qs) [] cl lv v (λ x m. absurd m)) e (Mem-has _ e h)

pub known-closed : (V Q : Tree → Type 0) (levels : List Tree) (qs : List Query) (count : ℕ) → Closed qs V Q → ((x : Tree) → Mem x (take count levels) → V x → Q x) → ((e : Tree) → Mem e (expressions levels qs) → V e)
    → (e : Tree) → has (known_of (given_steps levels qs count)) e ≡ true → Q e
known-closed V Q levels qs count cl lv v e h = (known-both V Q levels qs count cl lv v e h).1
