-- Worked declarations, with the first refusal of each, worked out by hand.
use Rattle.std.specs.Prelude.{ℕ, List, [], ◌∷◌, true, ◌≡◌, Option, Some, None}
use Rattle.us_expr.specs.Tree.{Tree, RowIndex, ColIndex, Number, Variable, Sum, Difference, Quotient, Remainder}
use Rattle.us_format.specs.Declaration.{Query, SumOf, Enumerate, Reorder, Schedule, Column, LevelColumn, Part, Declaration}
use Rattle.us_format.specs.Library.{csr, csc, coo, dcsr, bcsr, dia, ell, jds, cisr, aos, hyb, heavy, entry, coo_part}
use Rattle.us_judge.specs.declared.refusal.Refusal.{Refusal}
use Rattle.us_judge.specs.Acceptance.{first_refusal}

-- the refusal by a rule, at a place of a part
abbrev pub refusal : ℕ → ℕ → ℕ → Option Refusal
refusal rule part place = Some (record { rule = rule; part = part; place = place })

abbrev pub undivided : Part → Declaration
undivided p = record { head_names = 0; head = []; conds = []; parts = p ∷ [] }

-- an undivided declaration without queries
abbrev pub stored : List Tree → List ℕ → List ℕ → List (List Column) → Declaration
stored levels trim merge packs = undivided (record { names = 0; queries = []; levels = levels; trim = trim; merge = merge; packs = packs })

-- an undivided declaration that trims nothing
abbrev pub asked : ℕ → List Query → List Tree → Declaration
asked names queries levels = undivided (record { names = names; queries = queries; levels = levels; trim = []; merge = []; packs = [] })

-- a divided declaration, by its head: the test is whether the variable is below 2
abbrev pub split : ℕ → List Query → ℕ → Part → Declaration
split names queries var p = record { head_names = names; head = queries; conds = record { var = var; less = true; bound = 2 } ∷ []; parts = p ∷ coo_part ∷ [] }

-- one declaration for each rule
pub record WorkedRefusals : Type 0 where
  -- map ()
  pub no_level : first_refusal (stored [] [] [] []) ≡ refusal 1 1 0
  -- map (i, j, z)
  pub unknown_name : first_refusal (asked 1 [] (RowIndex ∷ ColIndex ∷ Variable 0 ∷ [])) ≡ refusal 2 1 2
  -- let k = reorder(i + j) map (i, j)
  pub sum_in_order : first_refusal (asked 1 (Reorder 0 (Sum RowIndex ColIndex) ∷ []) (RowIndex ∷ ColIndex ∷ [])) ≡ refusal 3 1 0
  -- let a, b = schedule(i) into 65 map (a, b, j)
  pub many_lanes : first_refusal (asked 2 (Schedule 0 1 RowIndex 65 ∷ []) (Variable 0 ∷ Variable 1 ∷ ColIndex ∷ [])) ≡ refusal 4 1 0
  -- let s = sum(i) map (s, i, j)
  pub sum_as_level : first_refusal (asked 1 (SumOf 0 RowIndex ∷ []) (Variable 0 ∷ RowIndex ∷ ColIndex ∷ [])) ≡ refusal 5 1 1
  -- let k = enumerate(i) map (i, k + 1, j)
  pub shifted_count : first_refusal (asked 1 (Enumerate 0 RowIndex ∷ []) (RowIndex ∷ Sum (Variable 0) (Number 1) ∷ ColIndex ∷ [])) ≡ refusal 6 1 2
  -- map (i, j) trim 2
  pub no_such_level : first_refusal (stored (RowIndex ∷ ColIndex ∷ []) (2 ∷ []) [] []) ≡ refusal 7 1 2
  -- map (i, j) merge 1
  pub merged_only : first_refusal (stored (RowIndex ∷ ColIndex ∷ []) [] (1 ∷ []) []) ≡ refusal 8 1 2
  -- map (i, j) trim 0
  pub full_after_loose : first_refusal (stored (RowIndex ∷ ColIndex ∷ []) (0 ∷ []) [] []) ≡ refusal 9 1 1
  -- map (i / 2, j)
  pub half_row : first_refusal (stored (Quotient RowIndex 2 ∷ ColIndex ∷ []) [] [] []) ≡ refusal 10 1 0
  -- map (i + j, i - j)
  pub sum_and_difference : first_refusal (stored (Sum RowIndex ColIndex ∷ Difference RowIndex ColIndex ∷ []) [] [] []) ≡ refusal 10 1 0
  -- map (i, j / 2)
  pub half_column : first_refusal (stored (RowIndex ∷ Quotient ColIndex 2 ∷ []) [] [] []) ≡ refusal 11 1 0
  -- map (i, j) trim 1 merge 1 pack (0, 1)
  pub full_in_pack : first_refusal (stored (RowIndex ∷ ColIndex ∷ []) (1 ∷ []) (1 ∷ []) ((LevelColumn 0 ∷ LevelColumn 1 ∷ []) ∷ [])) ≡ refusal 12 1 4
  -- let p = reorder(i) part when p < 2 { map (i, j) trim 0, 1 } rest { map (i, j) trim 0, 1 }
  pub ordered_head : first_refusal (split 1 (Reorder 0 RowIndex ∷ []) 0 coo_part) ≡ refusal 13 0 0

-- declarations that break no rule
pub record WorkedAcceptances : Type 0 where
  -- map (i % 4, i / 4, j)
  pub digits : first_refusal (stored (Remainder RowIndex 4 ∷ Quotient RowIndex 4 ∷ ColIndex ∷ []) [] [] []) ≡ None
  pub rows : first_refusal csr ≡ None
  pub columns : first_refusal csc ≡ None
  pub entries : first_refusal coo ≡ None
  pub filled_rows : first_refusal dcsr ≡ None
  pub blocks : first_refusal bcsr ≡ None
  pub diagonals : first_refusal dia ≡ None
  pub packed_entries : first_refusal aos ≡ None
  pub counted : first_refusal ell ≡ None
  pub ordered : first_refusal jds ≡ None
  pub scheduled : first_refusal cisr ≡ None
  pub divided_by_count : first_refusal hyb ≡ None
  pub divided_by_sum : first_refusal heavy ≡ None
  pub entry_format : first_refusal entry ≡ None

-- the first part decides, then the lowest rule, then the first item
pub record WorkedOrder : Type 0 where
  -- map (i, j) trim 0, 0: the later of two equal numbers, though a full level stands after a loose one
  pub twice : first_refusal (stored (RowIndex ∷ ColIndex ∷ []) (0 ∷ 0 ∷ []) [] []) ≡ refusal 7 1 3
  -- map (i, j) trim 0 merge 1: so too where a merged level isn't trimmed
  pub merged_before_order : first_refusal (stored (RowIndex ∷ ColIndex ∷ []) (0 ∷ []) (1 ∷ []) []) ≡ refusal 8 1 3
  -- let a, a = schedule(i) into 2 map (a, j): the query that names one variable twice
  pub one_name_for_both : first_refusal (asked 1 (Schedule 0 0 RowIndex 2 ∷ []) (Variable 0 ∷ ColIndex ∷ [])) ≡ refusal 2 1 0
  -- let k = enumerate(i) let k = sum(j) map (i, k, j): the later of two queries of one name
  pub one_name_for_two : first_refusal (asked 1 (Enumerate 0 RowIndex ∷ SumOf 0 ColIndex ∷ []) (RowIndex ∷ Variable 0 ∷ ColIndex ∷ [])) ≡ refusal 2 1 1
  -- let p = reorder(i) part when q < 2 { map () } rest { .. }: the condition is the item after the queries, and the head comes before the parts
  pub unknown_condition : first_refusal (split 2 (Reorder 0 RowIndex ∷ []) 1 (record { names = 0; queries = []; levels = []; trim = []; merge = []; packs = [] })) ≡ refusal 2 0 1
