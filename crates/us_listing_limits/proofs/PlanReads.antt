-- The steps of a plan read tables at most twice: each index is given a value once.
use Rattle.std.proofs.Common.{◌≡◌, ℕ, zero, suc, ◌+◌, ◌<◌, ◌≤◌, List, [], ◌∷◌, ◌++◌, length, take, Bool, true, false, cond, ◌&&◌, refl, sym, ap, subst, ◌∙◌, inl, arith, Option, Some, None}
use Rattle.std.proofs.lemmas.Bool.{false≢true}
use Rattle.std.proofs.lemmas.List.{map-append}
use Rattle.us_expr.specs.declared.queries.Axis.{Axis}
use Rattle.us_expr.specs.declared.queries.Axis.TheVariants.{Rows, Cols}
use Rattle.us_expr.specs.Tree.{Tree, RowIndex, ColIndex, Number}
use Rattle.us_format.specs.Declaration.{Query, axis_of, index_of}
use Rattle.us_format.specs.Known.{Give, Itself, OfLevel, Plus, Minus, Joined, Over, Rest, OrderAt, RowsAt, Steps, has, known_of, expressions, at_start, level_of, with_step, start, rule, step_for, one_pass, passes, given_steps}
use Rattle.us_format.specs.Lists.{then_do}
use Rattle.us_format.specs.Recover.{until_both, plan_of}
use Rattle.us_format.proofs.Members.{Mem-left, Mem-right}
use Rattle.us_format.proofs.Rules.{Justified, Fine, fine-rule}
use Rattle.us_format.proofs.Trees.{Mem-has, has-Mem}
use Rattle.us_invert.specs.declared.steps.PlanStep.{PlanStep}
use Rattle.us_invert.specs.declared.steps.PlanStep.TheVariants as plan
use Rattle.us_invert.specs.Plan.{give_at, step_at, item_at}
use Rattle.us_listing_limits.specs.Fitting.{reads, reads_in}
use Rattle.us_listing_limits.specs.Laws.{PlansReadTwice}

-- how many reads of tables there are
abbrev read_by : Give → ℕ
read_by (Itself c) = 0
read_by (OfLevel k) = 0
read_by (Plus a b) = 0
read_by (Minus a b) = 0
read_by (Joined q r k) = 0
read_by (Over a k) = 0
read_by (Rest a k) = 0
read_by (OrderAt q v) = 1
read_by (RowsAt q l t) = 1

abbrev read_in : Steps → ℕ
read_in [] = 0
read_in (x ∷ steps) = read_by x.1 + read_in steps

read_more : (steps : Steps) (e : Tree) (g : Give) → read_in (steps ++ (e, g) ∷ []) ≡ read_in steps + read_by g
read_more [] e g = omega arith
read_more (x ∷ steps) e g = omega (arith, read_more steps e g)

-- ---- indices without a value

abbrev missing : Bool → ℕ
missing known = cond known 0 1

abbrev unknown : List Tree → ℕ
unknown known = missing (has known RowIndex) + missing (has known ColIndex)

no_more : (a b : Bool) → (a ≡ true → b ≡ true) → missing b ≤ missing a
no_more true true h = omega arith
no_more true false h = absurd (false≢true (h refl))
no_more false true h = omega arith
no_more false false h = omega arith

one_less : (a b : Bool) → a ≡ false → b ≡ true → 1 + missing b ≤ missing a
one_less true b h k = absurd (false≢true (sym h))
one_less false true h k = omega arith
one_less false false h k = absurd (false≢true k)

stays : (known : List Tree) (e x : Tree) → has known x ≡ true → has (known ++ e ∷ []) x ≡ true
stays known e x h = has-Mem (known ++ e ∷ []) x (Mem-left x known (e ∷ []) (Mem-has known x h))

gets : (known : List Tree) (e : Tree) → has (known ++ e ∷ []) e ≡ true
gets known e = has-Mem (known ++ e ∷ []) e (Mem-right e known (e ∷ []) (inl refl))

unknown_less : (known : List Tree) (e : Tree) → unknown (known ++ e ∷ []) ≤ unknown known
unknown_less known e =
    omega (
      arith,
      no_more (has known RowIndex) (has (known ++ e ∷ []) RowIndex) (stays known e RowIndex),
      no_more (has known ColIndex) (has (known ++ e ∷ []) ColIndex) (stays known e ColIndex),
    )

found_less : (known : List Tree) (a : Axis) → has known (index_of a) ≡ false → 1 + unknown (known ++ index_of a ∷ []) ≤ unknown known
found_less known Rows h =
    omega (
      arith,
      one_less (has known RowIndex) (has (known ++ RowIndex ∷ []) RowIndex) h (gets known RowIndex),
      no_more (has known ColIndex) (has (known ++ RowIndex ∷ []) ColIndex) (stays known RowIndex ColIndex),
    )
found_less known Cols h =
    omega (
      arith,
      no_more (has known RowIndex) (has (known ++ ColIndex ∷ []) RowIndex) (stays known ColIndex RowIndex),
      one_less (has known ColIndex) (has (known ++ ColIndex ∷ []) ColIndex) h (gets known ColIndex),
    )

index_less : (known : List Tree) (e : Tree) (a : Axis) → e ≡ index_of a → has known e ≡ false → 1 + unknown (known ++ e ∷ []) ≤ unknown known
index_less known e a is h =
    subst (λ (t : Tree). has known t ≡ false → 1 + unknown (known ++ t ∷ []) ≤ unknown known) (sym is) (found_less known a) h

-- a step costs what it makes known
given_less : (qs : List Query) (known : List Tree) (e : Tree) (g : Give) → Justified qs known e g → has known e ≡ false → read_by g + unknown (known ++ e ∷ []) ≤ unknown known
given_less qs known e (Itself c) j h = omega (arith, unknown_less known e)
given_less qs known e (OfLevel k) j h = absurd j
given_less qs known e (Plus a b) j h = omega (arith, unknown_less known e)
given_less qs known e (Minus a b) j h = omega (arith, unknown_less known e)
given_less qs known e (Joined q r k) j h = omega (arith, unknown_less known e)
given_less qs known e (Over a k) j h = omega (arith, unknown_less known e)
given_less qs known e (Rest a k) j h = omega (arith, unknown_less known e)
given_less qs known e (OrderAt q v) (j, (w, x, at, r, i)) h = index_less known e (axis_of x) i h
given_less qs known e (RowsAt q l t) (j, k, (a, b, x, n, at, r, r2, i)) h = index_less known e (axis_of x) i h

-- ---- steps

known_more : (steps : Steps) (e : Tree) (g : Give) → known_of (steps ++ (e, g) ∷ []) ≡ known_of steps ++ e ∷ []
known_more steps e g = map-append (λ (x : Tree × Give). x.0) steps ((e, g) ∷ [])

record Bounded (steps : Steps) : Type 0 where
  most : read_in steps + unknown (known_of steps) ≤ 2

step_bounded : (qs : List Query) (steps : Steps) (e : Tree) (o : Option Give) → Fine qs (known_of steps) e o → has (known_of steps) e ≡ false → Bounded steps → Bounded (with_step steps e o)
step_bounded qs steps e None f h b = b
step_bounded qs steps e (Some g) f h b =
    record { most = omega (arith, b.most, read_more steps e g, ap unknown (known_more steps e g), given_less qs (known_of steps) e g f h) }

one_bounded : (es : List Tree) (qs : List Query) (steps : Steps) (e : Tree) → Bounded steps → Bounded (step_for es qs steps e)
one_bounded es qs steps e b = go (has (known_of steps) e) refl
  where
    go : (known : Bool) → has (known_of steps) e ≡ known → Bounded (cond known steps (with_step steps e (rule es qs (known_of steps) e)))
    go true h = b
    go false h = step_bounded qs steps e (rule es qs (known_of steps) e) (fine-rule es qs (known_of steps) e) h b

pass_bounded : (all : List Tree) (qs : List Query) (es : List Tree) (steps : Steps) → Bounded steps → Bounded (one_pass all qs es steps)
pass_bounded all qs [] steps b = b
pass_bounded all qs (e ∷ es) steps b = pass_bounded all qs es (step_for all qs steps e) (one_bounded all qs steps e b)

passes_bounded : (n : ℕ) (all : List Tree) (qs : List Query) (steps : Steps) → Bounded steps → Bounded (passes n all qs steps)
passes_bounded zero all qs steps b = b
passes_bounded (suc n) all qs steps b = passes_bounded n all qs (one_pass all qs all steps) (pass_bounded all qs all steps b)

-- the start reads no table
abbrev ReadsNone : Option Give → Type 0
ReadsNone None = Unit {0}
ReadsNone (Some g) = read_by g ≡ 0

start_none : (given : List Tree) (e : Tree) → ReadsNone (at_start given e)
start_none given (Number c) = refl
start_none given e = go (level_of 0 given e)
  where
    go : (o : Option ℕ) → ReadsNone (then_do o (λ k. Some (OfLevel k)))
    go None = tt
    go (Some k) = refl

none_bounded : (steps : Steps) (e : Tree) (o : Option Give) → ReadsNone o → Bounded steps → Bounded (with_step steps e o)
none_bounded steps e None r b = b
none_bounded steps e (Some g) r b =
    record { most = omega (arith, b.most, r, read_more steps e g, ap unknown (known_more steps e g), unknown_less (known_of steps) e) }

start_bounded : (given es : List Tree) (steps : Steps) → Bounded steps → Bounded (start given es steps)
start_bounded given [] steps b = b
start_bounded given (e ∷ es) steps b = start_bounded given es (with_step steps e (at_start given e)) (none_bounded steps e (at_start given e) (start_none given e) b)

-- ---- the plan

until_fewer : (known : List Tree) (steps : Steps) → read_in (until_both known steps) ≤ read_in steps
until_fewer known [] = omega arith
until_fewer known (x ∷ steps) = go (has known RowIndex && has known ColIndex) (until_fewer (x.0 ∷ known) steps)
  where
    go : (b : Bool) → read_in (until_both (x.0 ∷ known) steps) ≤ read_in steps → read_in (cond b [] (x ∷ until_both (x.0 ∷ known) steps)) ≤ read_by x.1 + read_in steps
    go true ih = omega arith
    go false ih = omega (arith, ih)

plan_twice : (levels : List Tree) (qs : List Query) → read_in (plan_of levels qs) ≤ 2
plan_twice levels qs =
    let all : Bounded (given_steps levels qs (length levels)) =
    passes_bounded (length (expressions levels qs)) (expressions levels qs) qs (start (take (length levels) levels) (expressions levels qs) [])
    (start_bounded (take (length levels) levels) (expressions levels qs) [] (record { most = omega arith })) in
    omega (arith, until_fewer [] (given_steps levels qs (length levels)), all.most)

-- ---- by numbers

same_reads : (ts : List Tree) (x : PlanStep) → reads x ≡ read_by (give_at ts x)
same_reads ts (plan.Const c) = refl
same_reads ts (plan.Level k) = refl
same_reads ts (plan.Add a b) = refl
same_reads ts (plan.Sub a b) = refl
same_reads ts (plan.Join q r k) = refl
same_reads ts (plan.Div a k) = refl
same_reads ts (plan.Rem a k) = refl
same_reads ts (plan.Order q v) = refl
same_reads ts (plan.Rows q l t) = refl

same_sums : (steps : List PlanStep) (planned : Steps) → length steps ≡ length planned → ((k : ℕ) → k < length planned → reads (step_at steps k) ≡ read_by (item_at planned k).1) → reads_in steps ≡ read_in planned
same_sums [] [] long h = refl
same_sums [] (y ∷ planned) long h = absurd (omega (arith, long))
same_sums (x ∷ steps) [] long h = absurd (omega (arith, long))
same_sums (x ∷ steps) (y ∷ planned) long h =
    let first : reads x ≡ read_by y.1 = h 0 (omega arith) in
    omega (arith, first, same_sums steps planned (omega (arith, long)) (λ k l. h (suc k) (omega (arith, l))))

pub plans-read : PlansReadTwice
plans-read levels queries steps has =
    let same : reads_in steps ≡ read_in (plan_of levels queries) =
    same_sums steps (plan_of levels queries) has.same_length (λ k l. same_reads (known_of (plan_of levels queries)) (step_at steps k) ∙ ap read_by (has.gives k l)) in
    omega (arith, same, plan_twice levels queries)
