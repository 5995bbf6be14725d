-- The canonical text of a declaration.
use Rattle.std.specs.Prelude.{ℕ, zero, suc, List, [], ◌∷◌, ◌++◌, drop, codes, Bool, true, false}
use Rattle.std.specs.List.{slice_index_or}
use Rattle.std.specs.Fmt.{decimal}
use Rattle.std.specs.List.{flat_map, join_by}
use Rattle.us_expr.specs.Tree.{Tree, RowIndex, ColIndex, Number, Variable, Sum, Difference, Quotient, Remainder}
use Rattle.us_expr.specs.declared.queries.Cond.{Cond}
use Rattle.us_decl.specs.declared.column.Column.{Column}
use Rattle.us_decl.specs.declared.column.Column.TheVariants.{Level, Val}
use Rattle.us_decl.specs.Declares.{Query, SumOf, EnumerateOf, ReorderOf, ScheduleOf, DeclaredPart, DeclaredBody, Undivided, Divided, Declared}

-- a comma and a space
abbrev pub comma : List ℕ
comma = 44 ∷ 32 ∷ []

-- the name with this number
abbrev pub name_text : List (List ℕ) → ℕ → List ℕ
name_text ns k = slice_index_or ns k []

abbrev pub is_sum : Tree → Bool
is_sum (Sum a b) = true
is_sum (Difference a b) = true
is_sum _ = false

abbrev pub parenthesized : Bool → List ℕ → List ℕ
parenthesized true w = 40 ∷ (w ++ (41 ∷ []))
parenthesized false w = w

-- a sum or a difference that is a right operand, or is divided, stands in parentheses
abbrev pub expr_text : List (List ℕ) → Tree → List ℕ
expr_text ns RowIndex = codes "i"
expr_text ns ColIndex = codes "j"
expr_text ns (Number c) = decimal c
expr_text ns (Variable v) = name_text ns v
expr_text ns (Sum a b) = expr_text ns a ++ (codes " + " ++ parenthesized (is_sum b) (expr_text ns b))
expr_text ns (Difference a b) = expr_text ns a ++ (codes " - " ++ parenthesized (is_sum b) (expr_text ns b))
expr_text ns (Quotient a k) = parenthesized (is_sum a) (expr_text ns a) ++ (codes " / " ++ decimal k)
expr_text ns (Remainder a k) = parenthesized (is_sum a) (expr_text ns a) ++ (codes " % " ++ decimal k)

-- a name, the word of a query, and its argument
abbrev pub asked_text : List (List ℕ) → ℕ → List ℕ → Tree → List ℕ
asked_text ns v word e = name_text ns v ++ (word ++ (expr_text ns e ++ codes ")"))

abbrev pub query_text : List (List ℕ) → Query → List ℕ
query_text ns (SumOf v e) = codes "let " ++ asked_text ns v (codes " = sum(") e
query_text ns (EnumerateOf v e) = codes "let " ++ asked_text ns v (codes " = enumerate(") e
query_text ns (ReorderOf v e) = codes "let " ++ asked_text ns v (codes " = reorder(") e
query_text ns (ScheduleOf v w e k) = codes "let " ++ (name_text ns v ++ (comma ++ (asked_text ns w (codes " = schedule(") e ++ (codes " into " ++ decimal k))))

abbrev pub column_text : Column → List ℕ
column_text (Level k) = decimal k
column_text Val = codes "val"

-- two spaces for each open brace, the line, and its end
abbrev pub indent : ℕ → List ℕ
indent zero = []
indent (suc depth) = 32 ∷ 32 ∷ indent depth

abbrev pub line : ℕ → List ℕ → List ℕ
line depth w = indent depth ++ (w ++ (10 ∷ []))

-- a word and its numbers on a line, or nothing where there are none
abbrev pub numbers_line : ℕ → List ℕ → List ℕ → List ℕ
numbers_line depth word [] = []
numbers_line depth word (k ∷ ks) = line depth (word ++ join_by decimal comma (k ∷ ks))

abbrev pub queries_lines : ℕ → List (List ℕ) → List Query → List ℕ
queries_lines depth ns qs = flat_map (λ q. line depth (query_text ns q)) qs

abbrev pub pack_text : List Column → List ℕ
pack_text cs = codes "pack (" ++ (join_by column_text comma cs ++ codes ")")

abbrev pub map_text : List (List ℕ) → List Tree → List ℕ
map_text ns es = codes "map (" ++ (join_by (expr_text ns) comma es ++ codes ")")

-- the lines behind the map
abbrev pub storage_lines : ℕ → DeclaredPart → List ℕ
storage_lines depth p = numbers_line depth (codes "trim ") p.trim ++ (numbers_line depth (codes "merge ") p.merge ++ flat_map (λ cs. line depth (pack_text cs)) p.packs)

abbrev pub part_lines : ℕ → DeclaredPart → List ℕ
part_lines depth p = queries_lines depth p.names p.queries ++ (line depth (map_text p.names p.levels) ++ storage_lines depth p)

abbrev pub sign_text : Bool → List ℕ
sign_text true = codes " < "
sign_text false = codes " >= "

abbrev pub condition_text : List (List ℕ) → Cond → List ℕ
condition_text ns c = name_text ns c.var ++ (sign_text c.less ++ decimal c.bound)

-- the line that opens a part: that of the first of these conditions, or that of the rest where there is none
abbrev pub opening_line : List (List ℕ) → List Cond → List ℕ
opening_line ns [] = line 1 (codes "rest {")
opening_line ns (c ∷ cs) = line 1 (codes "part when " ++ (condition_text ns c ++ codes " {"))

-- a part behind its opening line, and its brace
abbrev pub block_lines : DeclaredPart → List ℕ
block_lines p = part_lines 2 p ++ line 1 (codes "}")

-- a part for each condition, and the part of the rest
abbrev pub blocks_lines : List (List ℕ) → List Cond → List DeclaredPart → List ℕ
blocks_lines ns cs [] = []
blocks_lines ns cs (p ∷ ps) = (opening_line ns cs ++ block_lines p) ++ blocks_lines ns (drop 1 cs) ps

abbrev pub body_lines : DeclaredBody → List ℕ
body_lines (Undivided p) = part_lines 1 p
body_lines (Divided h ps) = queries_lines 1 h.names h.queries ++ blocks_lines h.names h.conds ps

-- all but the last brace and the end of its line
abbrev pub open_text : Declared → List ℕ
open_text d = line 0 (codes "format " ++ (d.name ++ codes " {")) ++ body_lines d.body

abbrev pub decl_text : Declared → List ℕ
decl_text d = open_text d ++ line 0 (codes "}")
