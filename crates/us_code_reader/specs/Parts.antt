-- What the parts of the reader above expressions do.
use Rattle.std.specs.Prelude.{◌<◌, ◌≤◌, ◌∷◌, Result, Ok, Err, Option, Some, None}
use Rattle.us_grammar.specs.Grammar.{Symbol, Fixed, Part, Row, Values}
use Rattle.us_code.specs.Plain.{End, ProgramTree, alone, ◌+++◌, term_tree, tree_of, line_tree, phase_tree}
use Rattle.us_code.specs.declared.program.Dim.{Dim}
use Rattle.us_code.specs.declared.program.DimLine.{DimLine}
use Rattle.us_code.specs.declared.program.Make.{Make}
use Rattle.us_code.specs.declared.program.Phase.{Phase}
use Rattle.us_code.specs.declared.program.Stmt.{Stmt}
use Rattle.us_code.specs.declared.program.Term.{Term}
use Rattle.us_code_table.specs.declared.mark.Mark.TheVariants as m
use Rattle.us_code_table.specs.Table as table
use Rattle.us_code_table.specs.Table.{Nonterminal, Class, Word, Value, Sum, Stmts, Makes, DimLines, Phases, grammar}
use Rattle.us_code_text.specs.declared.reader.Reader.{Reader}
use Rattle.us_code_text.specs.declared.stop.Stop.{Stop}
use Rattle.us_code_text.specs.Reads.{text_of, size, answer_of, Ends, Leads, Goes, GoesInto, Fails}
use Rattle.us_code_reader.specs.declared.rest.Given.{Given}
use Rattle.us_code_reader.specs.declared.rest.Given.TheVariants as given
use Rattle.us_code_reader.specs.declared.rest.Bound.{Bound}
use Rattle.us_code_reader.specs.declared.rest.Bound.TheVariants as bound
use Rattle.us_code_reader.specs.declared.rest.Shape.{Shape}
use Rattle.us_code_reader.specs.declared.rest.Shape.TheVariants as shape

-- values in the making, as the grammar's table has them

abbrev pub given_tree : Given → table.Given
given_tree (given.Computed e) = table.Computed (term_tree e)
given_tree (given.Loaded b e) = table.Loaded b (term_tree e)

abbrev pub bound_tree : Bound → table.Bound
bound_tree (bound.Upto d b) = table.Upto d (tree_of b)
bound_tree (bound.Spanned x y d b) = table.Spanned (term_tree x) (term_tree y) d (tree_of b)

abbrev pub shape_tree : Shape → table.Shape
shape_tree (shape.Takes e) = table.Takes (term_tree e)
shape_tree (shape.Times d e) = table.Times d e
shape_tree (shape.Follows d) = table.Follows d

abbrev pub operator : Option Dim → table.Operator
operator (Some d) = table.ByDim d
operator None = table.ByOne

-- a part was read that may be nothing
abbrev pub ReadsMaybe : {X : Type 0} → (n : Nonterminal) → (X → Value n) → Reader → Reader → Result X Stop → Type 0
ReadsMaybe n see r q (Ok v) = Goes n r q (see v) × (size (text_of q) ≤ size (text_of r))
ReadsMaybe n see r q (Err e) = Fails n r e

-- the first of a list was read, and those that follow it stand behind it
abbrev pub ReadsFirst : {X : Type 0} → (n : Nonterminal) → (X → Value n → Value n) → Reader → Reader → Result X Stop → Type 0
ReadsFirst n put r q (Ok v) = GoesInto n n r q (put v) × (size (text_of q) < size (text_of r))
ReadsFirst n put r q (Err e) = Fails n r e

abbrev pub ReadsStatement : Reader → Reader → Result Stmt Stop → Type 0
ReadsStatement r q o = ReadsFirst Stmts (λ s c. alone s +++ c) r q o

abbrev pub ReadsMake : Reader → Reader → Result Make Stop → Type 0
ReadsMake r q o = ReadsFirst Makes (λ x xs. x ∷ xs) r q o

abbrev pub ReadsDimLine : Reader → Reader → Result DimLine Stop → Type 0
ReadsDimLine r q o = ReadsFirst DimLines (λ x xs. line_tree x ∷ xs) r q o

abbrev pub ReadsPhase : Reader → Reader → Result Phase Stop → Type 0
ReadsPhase r q o = ReadsFirst Phases (λ x xs. phase_tree x ∷ xs) r q o

-- the first statement was read, or there is none
abbrev pub ReadsOptional : Reader → Reader → Result (Option Stmt) Stop → Type 0
ReadsOptional r q (Ok (Some s)) = GoesInto Stmts Stmts r q (λ c. alone s +++ c) × (size (text_of q) < size (text_of r))
ReadsOptional r q (Ok None) = Goes Stmts r q End × (size (text_of q) ≤ size (text_of r))
ReadsOptional r q (Err e) = Fails Stmts r e

-- a term in brackets
abbrev pub Bracketed : Symbol Nonterminal Class → Row grammar → Row grammar
Bracketed x s = Fixed (Word m.BracketOpen) ∷ Part Sum ∷ Fixed (Word m.BracketClose) ∷ x ∷ s

abbrev pub ReadsPlace : Reader → Reader → Result Term Stop → Type 0
ReadsPlace r q (Ok at) = ((x : Symbol Nonterminal Class) (s : Row grammar) (k : Values grammar (Bracketed x s) → ProgramTree) → Leads r (Bracketed x s) k q (x ∷ s) (λ vs. k (term_tree at, vs))) × (size (text_of q) < size (text_of r))
ReadsPlace r q (Err e) = (x : Symbol Nonterminal Class) (s : Row grammar) (k : Values grammar (Bracketed x s) → ProgramTree) → Ends r (Bracketed x s) k (answer_of e)
