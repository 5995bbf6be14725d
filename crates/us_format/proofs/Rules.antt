-- What a rule gives is right wherever its operands are.
use Rattle.std.specs.Prelude.{slice_get}
use Rattle.std.proofs.Common.{◌≡◌, ℕ, suc, ◌+◌, ◌⊎◌, List, [], ◌∷◌, Bool, true, false, cond, ◌&&◌, eqb, sym, refl, ap, ◌∙◌, inl, inr, eqb-true, Option, Some, None, arith}
use Rattle.std.proofs.lemmas.Bool.{and_parts}
use Rattle.us_format.proofs.Trees.{same_tree-true}
use Rattle.us_expr.specs.Tree.{Difference, Number, Quotient, Remainder, Sum, Tree, Variable}
use Rattle.us_format.specs.Declaration.{axis_of, Enumerate, Query, Reorder, Schedule, SumOf, index_of}
use Rattle.us_format.specs.Known.{Give, Itself, Joined, Minus, OfLevel, OrderAt, Over, Plus, Rest, RowsAt, from_difference, from_operands, from_quotient, from_reorder, from_schedule, from_sum, has, order_for, rows_for, rule, same_tree}
use Rattle.us_format.specs.Lists.{first_of, or_else, when}

-- g gives e from operands that are known
abbrev pub Justified : List Query → List Tree → Tree → Give → Type 0
Justified qs known e (Itself c) = e ≡ Number c
Justified qs known e (OfLevel k) = ⊥
Justified qs known e (Plus a b) = (has known a ≡ true) × (has known b ≡ true) × ((e ≡ Sum a b) ⊎ (a ≡ Difference e b))
Justified qs known e (Minus a b) = (has known a ≡ true) × (has known b ≡ true) × ((e ≡ Difference a b) ⊎ ((a ≡ Sum e b) ⊎ ((a ≡ Sum b e) ⊎ (b ≡ Difference a e))))
Justified qs known e (Joined q r k) = (has known q ≡ true) × (has known r ≡ true) × (q ≡ Quotient e k) × (r ≡ Remainder e k)
Justified qs known e (Over a k) = (has known a ≡ true) × (e ≡ Quotient a k)
Justified qs known e (Rest a k) = (has known a ≡ true) × (e ≡ Remainder a k)
Justified qs known e (OrderAt q v) = (has known v ≡ true) × ((w : ℕ) × (x : Tree) × (slice_get qs q ≡ Some (Reorder w x)) × (v ≡ Variable w) × (e ≡ index_of (axis_of x)))
Justified qs known e (RowsAt q l s) = (has known l ≡ true) × (has known s ≡ true) × ((a : ℕ) × (b : ℕ) × (x : Tree) × (n : ℕ) × (slice_get qs q ≡ Some (Schedule a b x n)) × (l ≡ Variable a) × (s ≡ Variable b) × (e ≡ index_of (axis_of x)))

-- what is given, if anything, is justified
abbrev pub Fine : List Query → List Tree → Tree → Option Give → Type 0
Fine qs known e None = Unit {0}
Fine qs known e (Some g) = Justified qs known e g

pub fine-or : (qs : List Query) (known : List Tree) (e : Tree) (a b : Option Give) → Fine qs known e a → Fine qs known e b → Fine qs known e (or_else a b)
fine-or qs known e None b x y = y
fine-or qs known e (Some g) b x y = x

pub fine-when : (qs : List Query) (known : List Tree) (e : Tree) (t : Bool) (g : Give) → (t ≡ true → Justified qs known e g) → Fine qs known e (when t g)
fine-when qs known e true g h = h refl
fine-when qs known e false g h = tt

pub fine-cond : (qs : List Query) (known : List Tree) (e : Tree) (t : Bool) (a : Option Give) → (t ≡ true → Fine qs known e a) → Fine qs known e (cond t a None)
fine-cond qs known e true a h = h refl
fine-cond qs known e false a h = tt

pub fine-first : (qs : List Query) (known : List Tree) (e : Tree) (f : Tree → Option Give) (es : List Tree) → ((x : Tree) → Fine qs known e (f x)) → Fine qs known e (first_of f es)
fine-first qs known e f [] h = tt
fine-first qs known e f (x ∷ es) h = fine-or qs known e (f x) (first_of f es) (h x) (fine-first qs known e f es h)

pub fine-sum : (qs : List Query) (known : List Tree) (e s : Tree) → Fine qs known e (from_sum known e s)
fine-sum qs known e (Sum a b) =
    fine-cond qs known e (has known (Sum a b)) _ (λ h. fine-or qs known e _ _
    (fine-when qs known e (same_tree a e && has known b) (Minus (Sum a b) b) (λ t. (h, (and_parts _ _ t).1, inr (inl (ap (λ x. Sum x b) (same_tree-true a e (and_parts _ _ t).0))))))
    (fine-when qs known e (same_tree b e && has known a) (Minus (Sum a b) a) (λ t. (h, (and_parts _ _ t).1, inr (inr (inl (ap (λ x. Sum a x) (same_tree-true b e (and_parts _ _ t).0))))))))
fine-sum qs known e _ = tt

pub fine-difference : (qs : List Query) (known : List Tree) (e s : Tree) → Fine qs known e (from_difference known e s)
fine-difference qs known e (Difference a b) =
    fine-cond qs known e (has known (Difference a b)) _ (λ h. fine-or qs known e _ _
    (fine-when qs known e (same_tree a e && has known b) (Plus (Difference a b) b) (λ t. (h, (and_parts _ _ t).1, inr (ap (λ x. Difference x b) (same_tree-true a e (and_parts _ _ t).0)))))
    (fine-when qs known e (same_tree b e && has known a) (Minus a (Difference a b)) (λ t. ((and_parts _ _ t).1, h, inr (inr (inr (ap (λ x. Difference a x) (same_tree-true b e (and_parts _ _ t).0))))))))
fine-difference qs known e _ = tt

pub fine-quotient : (qs : List Query) (known : List Tree) (e s : Tree) → Fine qs known e (from_quotient known e s)
fine-quotient qs known e (Quotient a k) =
    fine-when qs known e (same_tree a e && (has known (Quotient a k) && has known (Remainder a k))) (Joined (Quotient a k) (Remainder a k) k) (λ t. let u = and_parts _ _ t in let w = and_parts _ _ u.1 in let q : a ≡ e = same_tree-true a e u.0 in (w.0, w.1, ap (λ x. Quotient x k) q, ap (λ x. Remainder x k) q))
fine-quotient qs known e _ = tt

-- the number of a query that stands further on
pub later : (all qs : List Query) (q : Query) (k : ℕ) → ((m : ℕ) → slice_get (q ∷ qs) m ≡ slice_get all (k + m)) → (m : ℕ) → slice_get qs m ≡ slice_get all (suc k + m)
later all qs q k h m = h (suc m) ∙ ap (slice_get all) (omega arith)

pub fine-order : (all : List Query) (known : List Tree) (e : Tree) (v k : ℕ) (qs : List Query) → ((m : ℕ) → slice_get qs m ≡ slice_get all (k + m)) → Fine all known e (order_for known e v k qs)
fine-order all known e v k [] h = tt
fine-order all known e v k (Reorder w x ∷ qs) h =
    fine-or all known e _ _
    (fine-when all known e (eqb w v && (same_tree (index_of (axis_of x)) e && has known (Variable v))) (OrderAt k (Variable v)) (λ t. let u = and_parts _ _ t in let y = and_parts _ _ u.1 in
    (y.1, (w, x, sym (h 0 ∙ ap (slice_get all) (omega arith)), ap Variable (sym (eqb-true w v u.0)), sym (same_tree-true (index_of (axis_of x)) e y.0)))))
    (fine-order all known e v (suc k) qs (later all qs (Reorder w x) k h))
fine-order all known e v k (SumOf w x ∷ qs) h = fine-order all known e v (suc k) qs (later all qs (SumOf w x) k h)
fine-order all known e v k (Enumerate w x ∷ qs) h = fine-order all known e v (suc k) qs (later all qs (Enumerate w x) k h)
fine-order all known e v k (Schedule a b x n ∷ qs) h = fine-order all known e v (suc k) qs (later all qs (Schedule a b x n) k h)

pub fine-rows : (all : List Query) (known : List Tree) (e : Tree) (v k : ℕ) (qs : List Query) → ((m : ℕ) → slice_get qs m ≡ slice_get all (k + m)) → Fine all known e (rows_for known e v k qs)
fine-rows all known e v k [] h = tt
fine-rows all known e v k (Schedule a b x n ∷ qs) h =
    fine-or all known e _ _
    (fine-when all known e (eqb a v && (same_tree (index_of (axis_of x)) e && (has known (Variable a) && has known (Variable b)))) (RowsAt k (Variable a) (Variable b)) (λ t. let u = and_parts _ _ t in let y = and_parts _ _ u.1 in let z = and_parts _ _ y.1 in
    (z.0, z.1, (a, b, x, n, sym (h 0 ∙ ap (slice_get all) (omega arith)), refl, refl, sym (same_tree-true (index_of (axis_of x)) e y.0)))))
    (fine-rows all known e v (suc k) qs (later all qs (Schedule a b x n) k h))
fine-rows all known e v k (SumOf w x ∷ qs) h = fine-rows all known e v (suc k) qs (later all qs (SumOf w x) k h)
fine-rows all known e v k (Enumerate w x ∷ qs) h = fine-rows all known e v (suc k) qs (later all qs (Enumerate w x) k h)
fine-rows all known e v k (Reorder w x ∷ qs) h = fine-rows all known e v (suc k) qs (later all qs (Reorder w x) k h)

pub fine-reorder : (qs : List Query) (known : List Tree) (e s : Tree) → Fine qs known e (from_reorder qs known e s)
fine-reorder qs known e (Variable v) = fine-order qs known e v 0 qs (λ m. ap (slice_get qs) (omega arith))
fine-reorder qs known e _ = tt

pub fine-schedule : (qs : List Query) (known : List Tree) (e s : Tree) → Fine qs known e (from_schedule qs known e s)
fine-schedule qs known e (Variable v) = fine-rows qs known e v 0 qs (λ m. ap (slice_get qs) (omega arith))
fine-schedule qs known e _ = tt

pub fine-operands : (qs : List Query) (known : List Tree) (e : Tree) → Fine qs known e (from_operands known e)
fine-operands qs known (Sum a b) = fine-when qs known (Sum a b) (has known a && has known b) (Plus a b) (λ t. ((and_parts _ _ t).0, (and_parts _ _ t).1, inl refl))
fine-operands qs known (Difference a b) = fine-when qs known (Difference a b) (has known a && has known b) (Minus a b) (λ t. ((and_parts _ _ t).0, (and_parts _ _ t).1, inl refl))
fine-operands qs known (Quotient a k) = fine-when qs known (Quotient a k) (has known a) (Over a k) (λ t. (t, refl))
fine-operands qs known (Remainder a k) = fine-when qs known (Remainder a k) (has known a) (Rest a k) (λ t. (t, refl))
fine-operands qs known _ = tt

pub fine-rule : (es : List Tree) (qs : List Query) (known : List Tree) (e : Tree) → Fine qs known e (rule es qs known e)
fine-rule es qs known e =
    fine-or qs known e _ _ (fine-first qs known e _ es (fine-sum qs known e))
    (fine-or qs known e _ _ (fine-first qs known e _ es (fine-difference qs known e))
    (fine-or qs known e _ _ (fine-first qs known e _ es (fine-quotient qs known e))
    (fine-or qs known e _ _ (fine-first qs known e _ es (fine-reorder qs known e))
    (fine-or qs known e _ _ (fine-first qs known e _ es (fine-schedule qs known e))
    (fine-operands qs known e)))))
