-- The canonical text of a program.
use Rattle.std.specs.Prelude.{ℕ, zero, suc, ◌+◌, List, [], ◌∷◌, ◌++◌, codes, Bool, true, false}
use Rattle.std.specs.Fmt.{decimal}
use Rattle.std.specs.List.{flat_map, join_by}
use Rattle.us_code.specs.declared.program.Dim.{Dim}
use Rattle.us_code.specs.declared.program.Dim.TheVariants as dim
use Rattle.us_code.specs.declared.program.Buf.{Buf}
use Rattle.us_code.specs.declared.program.Buf.TheVariants as buf
use Rattle.us_code.specs.declared.program.CellKind.{CellKind}
use Rattle.us_code.specs.declared.program.CellKind.TheVariants as cell
use Rattle.us_code.specs.declared.program.Make.{Make}
use Rattle.us_code.specs.Plain.{TermTree, Number, Reg, Size, Flat, Next, Up, Add, Sub, Mul, Div, Rem, Code, End, Let, Load, Var, Put, Set, For, Span, If, When, Order, LineTree, Of, Product, Successor, PhaseTree, ProgramTree}

-- a letter or word and a number
abbrev pub name_text : List ℕ → ℕ → List ℕ
name_text w n = w ++ decimal n

abbrev pub register_text : ℕ → List ℕ
register_text r = name_text (codes "r") r

abbrev pub new_text : ℕ → List ℕ
new_text b = name_text (codes "b") b

abbrev pub buf_text : Buf → List ℕ
buf_text (buf.New b) = new_text b
buf_text (buf.Source k) = name_text (codes "s") k

abbrev pub dim_name_text : ℕ → List ℕ
dim_name_text d = name_text (codes "d") d

abbrev pub dim_text : Dim → List ℕ
dim_text (dim.Number n) = decimal n
dim_text (dim.Name d) = dim_name_text d
dim_text (dim.Len k) = name_text (codes "len") k

abbrev pub is_sum : TermTree → Bool
is_sum (Add a b) = true
is_sum (Sub a b) = true
is_sum _ = false

abbrev pub is_operation : TermTree → Bool
is_operation (Add a b) = true
is_operation (Sub a b) = true
is_operation (Mul a b) = true
is_operation (Div a k) = true
is_operation (Rem a k) = true
is_operation _ = false

abbrev pub parenthesized : Bool → List ℕ → List ℕ
parenthesized true w = codes "(" ++ (w ++ codes ")")
parenthesized false w = w

-- a word and a dim, and the parenthesis behind it
abbrev pub call_text : List ℕ → ℕ → List ℕ
call_text w d = w ++ (dim_name_text d ++ codes "(")

-- In parentheses stand a sum or difference that is a right operand, or an operand of a product, and a product, quotient or
-- remainder that is the right operand of a product.
abbrev pub term_text : TermTree → List ℕ
term_text (Number n) = decimal n
term_text (Reg r) = register_text r
term_text (Size d) = codes "size(" ++ (dim_text d ++ codes ")")
term_text (Flat d p c) = call_text (codes "flat ") d ++ (term_text p ++ (codes ", " ++ (term_text c ++ codes ")")))
term_text (Next d x) = call_text (codes "next ") d ++ (term_text x ++ codes ")")
term_text (Up d x) = call_text (codes "up ") d ++ (term_text x ++ codes ")")
term_text (Add a b) = term_text a ++ (codes " + " ++ parenthesized (is_sum b) (term_text b))
term_text (Sub a b) = term_text a ++ (codes " - " ++ parenthesized (is_sum b) (term_text b))
term_text (Mul a b) = parenthesized (is_sum a) (term_text a) ++ (codes " * " ++ parenthesized (is_operation b) (term_text b))
term_text (Div a k) = parenthesized (is_sum a) (term_text a) ++ (codes " / " ++ decimal k)
term_text (Rem a k) = parenthesized (is_sum a) (term_text a) ++ (codes " % " ++ decimal k)

-- two spaces for each open brace
abbrev pub indent : ℕ → List ℕ
indent zero = []
indent (suc depth) = 32 ∷ 32 ∷ indent depth

-- the end of a line, alone and behind the brace that opens a block
abbrev pub newline : List ℕ
newline = 10 ∷ []

abbrev pub opened : List ℕ
opened = codes " {" ++ newline

abbrev pub line : ℕ → List ℕ → List ℕ
line depth w = indent depth ++ (w ++ newline)

-- a buffer and the index in brackets
abbrev pub cell_text : Buf → TermTree → List ℕ
cell_text b at = buf_text b ++ (codes "[" ++ (term_text at ++ codes "]"))

-- what a register or a cell gets
abbrev pub value_text : TermTree → List ℕ
value_text e = codes " = " ++ (term_text e ++ newline)

abbrev pub loaded_text : Buf → TermTree → List ℕ
loaded_text b at = codes " = " ++ (cell_text b at ++ newline)

abbrev pub assign_line : ℕ → List ℕ → ℕ → TermTree → List ℕ
assign_line depth w r e = indent depth ++ (w ++ (register_text r ++ value_text e))

abbrev pub load_line : ℕ → ℕ → Buf → TermTree → List ℕ
load_line depth r b at = indent depth ++ (codes "let " ++ (register_text r ++ loaded_text b at))

abbrev pub set_line : ℕ → Buf → TermTree → TermTree → List ℕ
set_line depth b at e = indent depth ++ (codes "set " ++ (cell_text b at ++ value_text e))

abbrev pub bound_text : Dim → List ℕ
bound_text d = codes " below " ++ (dim_text d ++ opened)

abbrev pub for_line : ℕ → ℕ → Dim → List ℕ
for_line depth r d = indent depth ++ (codes "for " ++ (register_text r ++ bound_text d))

abbrev pub range_text : TermTree → TermTree → Dim → List ℕ
range_text a b d = codes " in " ++ (term_text a ++ (codes " to " ++ (term_text b ++ bound_text d)))

abbrev pub span_line : ℕ → ℕ → TermTree → TermTree → Dim → List ℕ
span_line depth r a b d = indent depth ++ (codes "for " ++ (register_text r ++ range_text a b d))

abbrev pub relation_text : Bool → List ℕ
relation_text true = codes " == "
relation_text false = codes " < "

abbrev pub compared_text : TermTree → Bool → TermTree → List ℕ
compared_text l equal r = term_text l ++ (relation_text equal ++ (term_text r ++ opened))

abbrev pub if_line : ℕ → TermTree → Bool → TermTree → List ℕ
if_line depth l equal r = indent depth ++ (codes "if " ++ compared_text l equal r)

abbrev pub as_text : ℕ → List ℕ
as_text r = codes " as " ++ (register_text r ++ opened)

abbrev pub within_text : Dim → ℕ → List ℕ
within_text d r = codes " below " ++ (dim_text d ++ as_text r)

abbrev pub when_line : ℕ → TermTree → Dim → ℕ → List ℕ
when_line depth e d r = indent depth ++ (codes "when " ++ (term_text e ++ within_text d r))

abbrev pub keys_text : List Buf → List ℕ
keys_text keys = codes " by " ++ (join_by buf_text (codes ", ") keys ++ newline)

abbrev pub order_line : ℕ → Buf → List Buf → List ℕ
order_line depth b keys = indent depth ++ (codes "order " ++ (buf_text b ++ keys_text keys))

-- the lines of a block and its closing brace, behind the line that opens it
abbrev pub closed_lines : ℕ → List ℕ → List ℕ
closed_lines depth w = w ++ line depth (codes "}")

-- what stands behind the first of two blocks: its brace, and the other block where an else was given
abbrev pub else_lines : ℕ → Bool → List ℕ → List ℕ
else_lines depth true w = line depth (codes "} else {") ++ closed_lines depth w
else_lines depth false w = line depth (codes "}")

-- the statements of a block
abbrev pub block_lines : ℕ → Code → List ℕ
block_lines depth End = []
block_lines depth (Let r e rest) = assign_line depth (codes "let ") r e ++ block_lines depth rest
block_lines depth (Load r b at rest) = load_line depth r b at ++ block_lines depth rest
block_lines depth (Var r e rest) = assign_line depth (codes "var ") r e ++ block_lines depth rest
block_lines depth (Put r e rest) = assign_line depth (codes "put ") r e ++ block_lines depth rest
block_lines depth (Set b at e rest) = set_line depth b at e ++ block_lines depth rest
block_lines depth (For r d body rest) = (for_line depth r d ++ closed_lines depth (block_lines (depth + 1) body)) ++ block_lines depth rest
block_lines depth (Span r a b d body rest) = (span_line depth r a b d ++ closed_lines depth (block_lines (depth + 1) body)) ++ block_lines depth rest
block_lines depth (If l eq r body given other rest) =
    (if_line depth l eq r ++ (block_lines (depth + 1) body ++ else_lines depth given (block_lines (depth + 1) other))) ++ block_lines depth rest
block_lines depth (When e d r body given other rest) =
    (when_line depth e d r ++ (block_lines (depth + 1) body ++ else_lines depth given (block_lines (depth + 1) other))) ++ block_lines depth rest
block_lines depth (Order b keys rest) = order_line depth b keys ++ block_lines depth rest

-- what the cells of a new buffer hold
abbrev pub kind_text : CellKind → List ℕ
kind_text cell.Word = codes " word" ++ newline
kind_text (cell.Below d) = codes " below " ++ (dim_text d ++ newline)

abbrev pub length_text : Dim → List ℕ
length_text d = codes "[" ++ (dim_text d ++ codes "]")

abbrev pub make_line : Make → List ℕ
make_line m = codes "    new " ++ (new_text m.buf ++ (length_text m.len ++ kind_text m.cell))

abbrev pub dim_head : ℕ → List ℕ
dim_head d = codes "    dim " ++ dim_name_text d

abbrev pub defined_text : Dim → List ℕ
defined_text d = codes " = " ++ dim_text d

abbrev pub dim_line : LineTree → List ℕ
dim_line (Of d e) = dim_head d ++ (codes " of " ++ (term_text e ++ newline))
dim_line (Product d l r) = dim_head d ++ (defined_text l ++ (codes " * " ++ (dim_text r ++ newline)))
dim_line (Successor d of) = dim_head d ++ (defined_text of ++ (codes " + 1" ++ newline))

abbrev pub do_lines : Code → List ℕ
do_lines body = line 2 (codes "do {") ++ closed_lines 2 (block_lines 3 body)

abbrev pub phase_lines : PhaseTree → List ℕ
phase_lines p = line 1 (codes "phase {") ++ (flat_map make_line p.makes ++ (do_lines p.body ++ (flat_map dim_line p.lines ++ line 1 (codes "}"))))

abbrev pub give_line : List ℕ → List ℕ
give_line [] = line 1 (codes "give")
give_line (b ∷ bs) = codes "  give " ++ (join_by new_text (codes ", ") (b ∷ bs) ++ newline)

abbrev pub code_line : ℕ → List ℕ
code_line sources = codes "code " ++ (decimal sources ++ opened)

-- all but the last brace and the end of its line
abbrev pub open_text : ProgramTree → List ℕ
open_text p = code_line p.sources ++ (flat_map phase_lines p.phases ++ give_line p.give)

-- the text of a program
abbrev pub code_text : ProgramTree → List ℕ
code_text p = open_text p ++ line 0 (codes "}")
