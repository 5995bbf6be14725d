-- Which declarations are accepted, and the first reason why one is not.
--
-- Each rule names the first item of a part that breaks it. The items of a part are numbered from 0 in the order of its
-- text: the queries, the levels, the numbers after `trim`, the numbers after `merge`, the packs. The items of a head are
-- its queries and then the conditions in their order. Rules on a part as a whole name the item 0.
use Rattle.std.specs.Prelude.{ℕ, suc, ◌+◌, List, [], ◌∷◌, ◌++◌, length, Bool, true, false, not, ◌&&◌, ◌||◌, nat_eq, nat_lt, nat_le, if◌then◌else◌, Option, Some, None}
use Rattle.std.specs.List.{list_all, list_any, range_with_len}
use Rattle.us_expr.specs.declared.queries.Cond.{Cond}
use Rattle.us_expr.specs.Tree.{Tree, RowIndex, ColIndex, Variable, Sum, Difference, Quotient, Remainder}
use Rattle.us_format.specs.declared.Kind.{Kind}
use Rattle.us_format.specs.declared.Kind.TheVariants.{Full, Slot}
use Rattle.us_format.specs.Lists.{then_do, or_else, when, first_of, among, all_different}
use Rattle.us_format.specs.Declaration.{Query, SumOf, Enumerate, Schedule, Column, LevelColumn, ValueColumn, Part, Declaration, argument, defines, defined, same_column}
use Rattle.us_format.specs.Known.{is_known}
use Rattle.us_format.specs.Kinds.{kind, is_loose}
use Rattle.us_format.specs.Rules.{has_lawful_argument, sum_variables}
use Rattle.us_judge.specs.declared.refusal.Refusal.{Refusal}

-- the number, counted from k on, of the first item that fails a test, which also gets the items before it
abbrev pub first_failing : {A : Type 0} → (List A → A → Bool) → List A → ℕ → List A → Option ℕ
first_failing test before k [] = None
first_failing test before k (x ∷ xs) = if test before x then first_failing test (before ++ x ∷ []) (suc k) xs else Some k

-- the item 0, unless the test holds
abbrev pub unless : Bool → Option ℕ
unless holds = when (not holds) 0

-- ---- where the items of a part begin

abbrev pub first_level : Part → ℕ
first_level p = length p.queries

abbrev pub first_trim : Part → ℕ
first_trim p = first_level p + length p.levels

abbrev pub first_merge : Part → ℕ
first_merge p = first_trim p + length p.trim

abbrev pub first_pack : Part → ℕ
first_pack p = first_merge p + length p.merge

-- ---- variables

-- the numbers of the variables that stand in an expression
abbrev pub variables : Tree → List ℕ
variables (Variable v) = v ∷ []
variables (Sum a b) = variables a ++ variables b
variables (Difference a b) = variables a ++ variables b
variables (Quotient a k) = variables a
variables (Remainder a k) = variables a
variables _ = []

abbrev pub is_variable : Tree → Bool
is_variable (Variable v) = true
is_variable _ = false

-- whether all variables of an expression are among these
abbrev pub uses_only : List ℕ → Tree → Bool
uses_only vs e = list_all (λ v. among v vs) (variables e)

-- whether no variable of an expression is among these
abbrev pub uses_none : List ℕ → Tree → Bool
uses_none vs e = list_all (λ v. not (among v vs)) (variables e)

-- the variables that count up: those of an enumerate, and the slots of a schedule
abbrev pub counting_variables : List Query → List ℕ
counting_variables [] = []
counting_variables (Enumerate v e ∷ qs) = v ∷ counting_variables qs
counting_variables (Schedule l t e n ∷ qs) = t ∷ counting_variables qs
counting_variables (_ ∷ qs) = counting_variables qs

-- ---- tests of an item

-- variables that are different, and not defined before
abbrev pub defines_new : List Query → Query → Bool
defines_new before q = all_different (defines q) && list_all (λ v. not (among v (defined before))) (defines q)

-- a query uses only variables of the queries before it, and defines only new ones, each once
abbrev pub is_defined_once : List Query → Query → Bool
is_defined_once before q = uses_only (defined before) (argument q) && defines_new before q

-- a schedule has 1 to 64 lanes
abbrev pub has_lawful_lanes : Query → Bool
has_lawful_lanes (Schedule l t e n) = nat_le 1 n && nat_le n 64
has_lawful_lanes _ = true

-- a query of a head is a sum or an enumerate
abbrev pub is_count : Query → Bool
is_count (SumOf v e) = true
is_count (Enumerate v e) = true
is_count _ = false

-- a number of a level, which no number before it is
abbrev pub is_new_level : Part → List ℕ → ℕ → Bool
is_new_level p before k = nat_lt k (length p.levels) && not (among k before)

-- a level after a loose level is loose
abbrev pub stays_loose : Part → List ℕ → ℕ → Bool
stays_loose p before k = not (list_any (is_loose p) before) || is_loose p k

-- ---- packs

abbrev pub is_slot : Kind → Bool
is_slot Slot = true
is_slot _ = false

abbrev pub is_full : Kind → Bool
is_full Full = true
is_full _ = false

-- columns from the level l on: the slot levels l, l + 1, .., and the values, if at all, last and behind the part's last level
abbrev pub is_run_from : Part → ℕ → List Column → Bool
is_run_from p l [] = true
is_run_from p l (ValueColumn ∷ cs) = is_nothing cs && nat_eq l (length p.levels)
  where
    is_nothing : List Column → Bool
    is_nothing [] = true
    is_nothing (c ∷ more) = false
is_run_from p l (LevelColumn k ∷ cs) = nat_eq k l && (nat_lt k (length p.levels) && (is_slot (kind p k) && is_run_from p (suc l) cs))

-- a first level that isn't full, and a run of columns behind it
abbrev pub is_run : Part → List Column → Bool
is_run p (LevelColumn k ∷ cs) = nat_lt k (length p.levels) && (not (is_full (kind p k)) && is_run_from p (suc k) cs)
is_run p _ = false

-- no column stands in an earlier pack
abbrev pub is_apart : List (List Column) → List Column → Bool
is_apart before pack = list_all (λ c. not (list_any (list_any (same_column c)) before)) pack

-- two or more columns in a run, none of which stands in an earlier pack
abbrev pub is_lawful_pack : Part → List (List Column) → List Column → Bool
is_lawful_pack p before pack = nat_le 2 (length pack) && (is_run p pack && is_apart before pack)

-- ---- the rules, by their numbers

-- what a rule says of an item: the first that breaks it
abbrev pub Rule : Type 0 → Type 0
Rule A = ℕ × (A → Option ℕ)

-- one to six levels
abbrev pub bad_count : Part → Option ℕ
bad_count p = unless (nat_le 1 (length p.levels) && nat_le (length p.levels) 6)

-- every variable that is used is defined by an earlier query, and each is defined once
abbrev pub bad_name : Part → Option ℕ
bad_name p =
    or_else (first_failing is_defined_once [] 0 p.queries) (first_failing (λ _ e. uses_only (defined p.queries) e) [] (first_level p) p.levels)

-- the argument of a sum and of an enumerate has no variable, that of a reorder and of a schedule is an index alone
abbrev pub bad_argument : List Query → Option ℕ
bad_argument qs = first_failing (λ _ q. has_lawful_argument q) [] 0 qs

abbrev pub bad_lanes : List Query → Option ℕ
bad_lanes qs = first_failing (λ _ q. has_lawful_lanes q) [] 0 qs

-- no variable of a sum stands in a level
abbrev pub bad_sum : Part → Option ℕ
bad_sum p = first_failing (λ _ e. uses_none (sum_variables p.queries) e) [] (first_level p) p.levels

-- an enumerate or slot variable in a level is the whole level
abbrev pub bad_whole : Part → Option ℕ
bad_whole p = first_failing (λ _ e. is_variable e || uses_none (counting_variables p.queries) e) [] (first_level p) p.levels

-- each number after `trim` is the number of a level, none twice; so after `merge`
abbrev pub bad_number : Part → Option ℕ
bad_number p = or_else (first_failing (is_new_level p) [] (first_trim p) p.trim) (first_failing (is_new_level p) [] (first_merge p) p.merge)

-- each merged level is trimmed
abbrev pub bad_merge : Part → Option ℕ
bad_merge p = first_failing (λ _ k. among k p.trim) [] (first_merge p) p.merge

-- every level after a loose level is loose
abbrev pub bad_order : Part → Option ℕ
bad_order p = first_failing (stays_loose p) [] (first_level p) (range_with_len 0 (length p.levels))

-- all levels make the row known, and the column
abbrev pub unknown_row : Part → Option ℕ
unknown_row p = unless (is_known p.levels p.queries (length p.levels) RowIndex)

abbrev pub unknown_column : Part → Option ℕ
unknown_column p = unless (is_known p.levels p.queries (length p.levels) ColIndex)

abbrev pub bad_pack : Part → Option ℕ
bad_pack p = first_failing (is_lawful_pack p) [] (first_pack p) p.packs

abbrev pub part_rules : List (Rule Part)
part_rules =
    (1, bad_count) ∷ (2, bad_name) ∷ (3, λ p. bad_argument p.queries) ∷ (4, λ p. bad_lanes p.queries) ∷ (5, bad_sum) ∷ (6, bad_whole) ∷ (7, bad_number)
    ∷ (8, bad_merge) ∷ (9, bad_order) ∷ (10, unknown_row) ∷ (11, unknown_column) ∷ (12, bad_pack) ∷ []

-- ---- the head

-- the variable of a condition is defined in the head
abbrev pub bad_condition : List Query → List Cond → Option ℕ
bad_condition head conds = first_failing (λ _ c. among c.var (defined head)) [] (length head) conds

-- the variables of the head's queries, and then those of the conditions, are defined
abbrev pub bad_head_name : Declaration → Option ℕ
bad_head_name d = or_else (first_failing is_defined_once [] 0 d.head) (bad_condition d.head d.conds)

-- every query of a head is a sum or an enumerate
abbrev pub bad_head_query : Declaration → Option ℕ
bad_head_query d = first_failing (λ _ q. is_count q) [] 0 d.head

abbrev pub head_rules : List (Rule Declaration)
head_rules = (2, bad_head_name) ∷ (3, λ d. bad_argument d.head) ∷ (4, λ d. bad_lanes d.head) ∷ (13, bad_head_query) ∷ []

-- ---- refusals

-- the first rule that is broken, and the first item that breaks it
abbrev pub refusal_by : {A : Type 0} → List (Rule A) → ℕ → A → Option Refusal
refusal_by rules part x = first_of (λ r. then_do (r.1 x) (λ place. Some (record { rule = r.0; part = part; place = place }))) rules

-- a declaration with conditions has a head, which is its part 0
abbrev pub head_refusal : Declaration → Option Refusal
head_refusal d = by_conds d.conds
  where
    by_conds : List Cond → Option Refusal
    by_conds [] = None
    by_conds (c ∷ cs) = refusal_by head_rules 0 d

-- the parts, numbered from k on
abbrev pub parts_refusal : ℕ → List Part → Option Refusal
parts_refusal k [] = None
parts_refusal k (p ∷ ps) = or_else (refusal_by part_rules k p) (parts_refusal (suc k) ps)

-- the first part that breaks a rule, the lowest rule that it breaks, and the first item that breaks this rule
abbrev pub first_refusal : Declaration → Option Refusal
first_refusal d = or_else (head_refusal d) (parts_refusal 1 d.parts)
