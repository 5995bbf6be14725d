-- Reading what was printed.
use Rattle.std.specs.Prelude.{◌≡◌, ◌<◌, ◌^◌, ℕ, List, [], ◌∷◌, ◌++◌, length, Bool, true, false}
use Rattle.us_tokens.specs.Lex.{lexed, Between}
use Rattle.us_grammar.specs.Reading.{Read, answer}
use Rattle.us_code.specs.declared.program.Buf.{Buf}
use Rattle.us_code.specs.declared.program.Buf.TheVariants as buf
use Rattle.us_code.specs.declared.program.Make.{Make}
use Rattle.us_code.specs.Plain.{TermTree, Number, Reg, Size, Flat, Next, Up, Add, Sub, Mul, Div, Rem, Code, End, Let, Load, Var, Put, Set, For, Span, If, When, Order, LineTree, Of, Product, Successor, PhaseTree, ProgramTree}
use Rattle.us_code.specs.Limits.{KeepsLimits}
use Rattle.us_code_table.specs.Table.{Whole, grammar}
use Rattle.us_code_table.specs.Words.{language}
use Rattle.us_code_table.specs.Limits.{limits}
use Rattle.us_code_print.specs.Canon.{code_text}

-- Trees as programs have them: the number of each name is below 2 ^ 32, and a block whose else wasn't given is empty.

abbrev pub NamedTerm : TermTree → Type 0
NamedTerm (Number n) = Unit {0}
NamedTerm (Reg r) = r < 2 ^ 32
NamedTerm (Size d) = Unit {0}
NamedTerm (Flat d p c) = (d < 2 ^ 32) × NamedTerm p × NamedTerm c
NamedTerm (Next d x) = (d < 2 ^ 32) × NamedTerm x
NamedTerm (Up d x) = (d < 2 ^ 32) × NamedTerm x
NamedTerm (Add a b) = NamedTerm a × NamedTerm b
NamedTerm (Sub a b) = NamedTerm a × NamedTerm b
NamedTerm (Mul a b) = NamedTerm a × NamedTerm b
NamedTerm (Div a k) = NamedTerm a
NamedTerm (Rem a k) = NamedTerm a

abbrev pub NamedBuf : Buf → Type 0
NamedBuf (buf.New b) = b < 2 ^ 32
NamedBuf (buf.Source k) = k < 2 ^ 32

abbrev pub NamedBufs : List Buf → Type 0
NamedBufs [] = Unit {0}
NamedBufs (b ∷ bs) = NamedBuf b × NamedBufs bs

abbrev pub GivenElse : Bool → Code → Type 0
GivenElse true other = Unit {0}
GivenElse false other = other ≡ End

abbrev pub Named : Code → Type 0
Named End = Unit {0}
Named (Let r e rest) = (r < 2 ^ 32) × NamedTerm e × Named rest
Named (Load r b at rest) = (r < 2 ^ 32) × NamedBuf b × NamedTerm at × Named rest
Named (Var r e rest) = (r < 2 ^ 32) × NamedTerm e × Named rest
Named (Put r e rest) = (r < 2 ^ 32) × NamedTerm e × Named rest
Named (Set b at e rest) = NamedBuf b × NamedTerm at × NamedTerm e × Named rest
Named (For r d body rest) = (r < 2 ^ 32) × Named body × Named rest
Named (Span r a b d body rest) = (r < 2 ^ 32) × NamedTerm a × NamedTerm b × Named body × Named rest
Named (If l eq r body given other rest) = NamedTerm l × NamedTerm r × Named body × GivenElse given other × Named other × Named rest
Named (When e d r body given other rest) = NamedTerm e × (r < 2 ^ 32) × Named body × GivenElse given other × Named other × Named rest
Named (Order b keys rest) = NamedBuf b × NamedBufs keys × Named rest

abbrev pub NamedMakes : List Make → Type 0
NamedMakes [] = Unit {0}
NamedMakes (m ∷ ms) = (m.buf < 2 ^ 32) × NamedMakes ms

abbrev pub NamedLine : LineTree → Type 0
NamedLine (Of d e) = (d < 2 ^ 32) × NamedTerm e
NamedLine (Product d l r) = d < 2 ^ 32
NamedLine (Successor d of) = d < 2 ^ 32

abbrev pub NamedLines : List LineTree → Type 0
NamedLines [] = Unit {0}
NamedLines (l ∷ ls) = NamedLine l × NamedLines ls

abbrev pub NamedPhases : List PhaseTree → Type 0
NamedPhases [] = Unit {0}
NamedPhases (p ∷ ps) = NamedMakes p.makes × Named p.body × NamedLines p.lines × NamedPhases ps

abbrev pub NamedNumbers : List ℕ → Type 0
NamedNumbers [] = Unit {0}
NamedNumbers (n ∷ ns) = (n < 2 ^ 32) × NamedNumbers ns

pub record IsNamed (p : ProgramTree) : Type 0 where
  pub phases : NamedPhases p.phases
  pub give : NamedNumbers p.give

-- the canonical text is read as the program up to its last brace, behind which the line ends, whatever follows
abbrev pub ReadBackLaw : Type 0
ReadBackLaw =
    (p : ProgramTree) → KeepsLimits p → IsNamed p → (more : List ℕ)
    → answer grammar limits Whole (lexed language (code_text p ++ more) Between) ≡ Read p (length (10 ∷ more)) (lexed language (10 ∷ more) Between)

-- two programs have two canonical texts
abbrev pub CanonLaw : Type 0
CanonLaw = (p q : ProgramTree) → KeepsLimits p → IsNamed p → KeepsLimits q → IsNamed q → code_text p ≡ code_text q → p ≡ q
