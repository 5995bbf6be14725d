-- The code of what a text declares, by which proofs tell two values apart: a tuple of what it is made of.
use Rattle.std.specs.Prelude.{ℕ, zero, suc, Bool, List, ◌≡◌, ◌⊎◌, refl}
use Rattle.us_expr.specs.declared.queries.Cond.{Cond}
use Rattle.std.proofs.Common.{inl, inr}
use Rattle.std.specs.Coded.{Coded, code_by, coded×, coded⊎, coded_list, coded_ℕ, coded_bool}
use Rattle.us_expr.specs.Tree.{Tree}
use Rattle.us_known.specs.Code.{tree_code, trees_code}
use Rattle.us_decl.specs.declared.column.Column.{Column}
use Rattle.us_decl.specs.declared.column.Column.TheVariants.{Level, Val}
use Rattle.us_decl.specs.Declares.{Query, SumOf, EnumerateOf, ReorderOf, ScheduleOf, DeclaredPart, DeclaredHead, DeclaredBody, Undivided, Divided, Declared}

-- ---- columns

abbrev number_of : Column → ℕ
number_of Val = zero
number_of (Level k) = suc k

abbrev column_of : ℕ → Column
column_of zero = Val
column_of (suc k) = Level k

pub column_is : (c : Column) → column_of (number_of c) ≡ c
column_is Val = refl
column_is (Level k) = refl

abbrev column_code : Coded Column
column_code = code_by ℕ coded_ℕ number_of column_of column_is

-- ---- queries

-- a number and an expression, three times, and two numbers, an expression and a number
abbrev Parts : Type 0
Parts = ((ℕ × Tree) ⊎ (ℕ × Tree)) ⊎ ((ℕ × Tree) ⊎ ((ℕ × ℕ) × (Tree × ℕ)))

abbrev parts_of : Query → Parts
parts_of (SumOf v e) = inl (inl (v, e))
parts_of (EnumerateOf v e) = inl (inr (v, e))
parts_of (ReorderOf v e) = inr (inl (v, e))
parts_of (ScheduleOf v w e k) = inr (inr ((v, w), (e, k)))

abbrev query_of : Parts → Query
query_of (inl (inl p)) = SumOf p.0 p.1
query_of (inl (inr p)) = EnumerateOf p.0 p.1
query_of (inr (inl p)) = ReorderOf p.0 p.1
query_of (inr (inr p)) = ScheduleOf p.0.0 p.0.1 p.1.0 p.1.1

pub query_is : (q : Query) → query_of (parts_of q) ≡ q
query_is (SumOf v e) = refl
query_is (EnumerateOf v e) = refl
query_is (ReorderOf v e) = refl
query_is (ScheduleOf v w e k) = refl

abbrev query_code : Coded Query
query_code =
    code_by Parts
    (coded⊎ (coded⊎ (coded× coded_ℕ tree_code) (coded× coded_ℕ tree_code)) (coded⊎ (coded× coded_ℕ tree_code) (coded× (coded× coded_ℕ coded_ℕ) (coded× tree_code coded_ℕ))))
    parts_of query_of query_is

-- ---- parts, heads, declarations

abbrev numbers_code : Coded (List ℕ)
numbers_code = coded_list coded_ℕ

abbrev part_code : Coded DeclaredPart
part_code =
    code_by ((List (List ℕ) × List Query) × ((List Tree × List ℕ) × (List ℕ × List (List Column))))
    (coded× (coded× (coded_list numbers_code) (coded_list query_code)) (coded× (coded× trees_code numbers_code) (coded× numbers_code (coded_list (coded_list column_code)))))
    (λ p. ((p.names, p.queries), ((p.levels, p.trim), (p.merge, p.packs))))
    (λ t. record { names = t.0.0; queries = t.0.1; levels = t.1.0.0; trim = t.1.0.1; merge = t.1.1.0; packs = t.1.1.1 })
    (λ _. refl)

abbrev cond_code : Coded Cond
cond_code = code_by (ℕ × (Bool × ℕ)) (coded× coded_ℕ (coded× coded_bool coded_ℕ)) (λ c. (c.var, (c.less, c.bound))) (λ t. record { var = t.0; less = t.1.0; bound = t.1.1 }) (λ _. refl)

abbrev head_code : Coded DeclaredHead
head_code =
    code_by ((List (List ℕ) × List Query) × List Cond)
    (coded× (coded× (coded_list numbers_code) (coded_list query_code)) (coded_list cond_code))
    (λ h. ((h.names, h.queries), h.conds))
    (λ t. record { names = t.0.0; queries = t.0.1; conds = t.1 })
    (λ _. refl)

-- one part, or a head and parts
abbrev OneOrMore : Type 0
OneOrMore = DeclaredPart ⊎ (DeclaredHead × List DeclaredPart)

abbrev pieces_of : DeclaredBody → OneOrMore
pieces_of (Undivided p) = inl p
pieces_of (Divided h ps) = inr (h, ps)

abbrev body_of : OneOrMore → DeclaredBody
body_of (inl p) = Undivided p
body_of (inr t) = Divided t.0 t.1

pub body_is : (b : DeclaredBody) → body_of (pieces_of b) ≡ b
body_is (Undivided p) = refl
body_is (Divided h ps) = refl

abbrev body_code : Coded DeclaredBody
body_code = code_by OneOrMore (coded⊎ part_code (coded× head_code (coded_list part_code))) pieces_of body_of body_is

abbrev pub declared_code : Coded Declared
declared_code = code_by (List ℕ × DeclaredBody) (coded× numbers_code body_code) (λ d. (d.name, d.body)) (λ t. record { name = t.0; body = t.1 }) (λ _. refl)
