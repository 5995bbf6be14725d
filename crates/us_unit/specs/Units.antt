-- What the bytes of a unit hold, or the first fault of its text: a target declaration, then a program, then nothing but blanks and comments.
use Rattle.std.specs.Prelude.{◌≡◌, ℕ, ◌-◌, List, [], ◌++◌, length, drop, Result, Ok, Err}
use Rattle.us_tokens.specs.Text as text
use Rattle.us_tokens.specs.Text.{Text, left_of}
use Rattle.us_tokens.specs.Lex.{lexed, Between}
use Rattle.us_tokens.specs.Reading.{Answer, Read, Whole, NoToken, Form, Broken, scan}
use Rattle.us_grammar.specs.Reading as code
use Rattle.us_decl.specs.declared.lexeme.Lexeme as words
use Rattle.us_decl.specs.Grammar.{Decl}
use Rattle.us_decl.specs.Declares.{Declared, declared}
use Rattle.us_decl.specs.Views.{decl_view}
use Rattle.us_parse.specs.Within.{Break, TooBig, Repeated}
use Rattle.us_parse.specs.Piece.{AtFormat}
use Rattle.us_parse.specs.Machine.{reader}
use Rattle.us_parse.specs.Parses.{tokens_of}
use Rattle.us_parse.specs.declared.parsed.DeclFault.{DeclFault}
use Rattle.us_parse.specs.declared.parsed.DeclFault.TheVariants as decl
use Rattle.us_print.specs.Canon.{decl_text}
use Rattle.us_code.specs.Plain.{ProgramTree, program_tree}
use Rattle.us_code.specs.declared.program.Program.{Program}
use Rattle.us_code_table.specs.declared.lexeme.Lexeme.{Lexeme}
use Rattle.us_code_table.specs.Words.{language}
use Rattle.us_code_table.specs.Limits as limits
use Rattle.us_code_print.specs.Canon.{code_text}
use Rattle.us_code_reader.specs.declared.parsed.CodeFault.{CodeFault}
use Rattle.us_code_reader.specs.declared.parsed.CodeFault.TheVariants as fault
use Rattle.us_code_reader.specs.Parses.{answer_on}
use Rattle.us_unit.specs.declared.unit.OneUnit.{OneUnit}

-- what a unit holds
pub record PlainUnit : Type 0 where
  pub target : Declared
  pub program : ProgramTree

-- what stands behind a text of so many bytes, in the tokens of loop code: nothing, or the first token or byte there is a fault
abbrev pub ended : {A : Type 0} → ℕ → A → Text Lexeme → Result A CodeFault
ended len x text.End = Ok x
ended len x (text.Bad left) = Err (fault.Token (len - left))
ended len x (text.Then k w behind more) = Err (fault.Form (len - left_of (text.Then k w behind more)))

-- the program that was read in these bytes, and that nothing stands behind it
abbrev pub program_told : List ℕ → code.Answer Lexeme ProgramTree limits.Break → Result ProgramTree CodeFault
program_told bytes (code.Read p behind more) = ended (length bytes) p (lexed language (drop (length bytes - behind) bytes) Between)
program_told bytes (code.Whole p) = Ok p
program_told bytes (code.NoToken left) = Err (fault.Token (length bytes - left))
program_told bytes (code.Form left) = Err (fault.Form (length bytes - left))
program_told bytes (code.Broken limit left) = Err (fault.TooBig (length bytes - left))

abbrev pub held_with : Declared → Result ProgramTree CodeFault → Result PlainUnit CodeFault
held_with d (Ok p) = Ok (record { target = d; program = p })
held_with d (Err f) = Err f

-- a declaration, and the program from a place on
abbrev pub unit_with : List ℕ → Declared → ℕ → Result PlainUnit CodeFault
unit_with bytes d from = held_with d (program_told bytes (answer_on (drop from bytes)))

-- the declaration that was read in these bytes, and the program behind it
abbrev pub unit_told : List ℕ → Answer words.Lexeme Decl Break → Result PlainUnit CodeFault
unit_told bytes (Read d behind more) = unit_with bytes (declared d) (length bytes - behind)
unit_told bytes (Whole d) = unit_with bytes (declared d) (length bytes)
unit_told bytes (NoToken left) = Err (fault.Token (length bytes - left))
unit_told bytes (Form left) = Err (fault.Form (length bytes - left))
unit_told bytes (Broken TooBig left) = Err (fault.TooBig (length bytes - left))
unit_told bytes (Broken Repeated left) = Err (fault.Form (length bytes - left))

-- what these bytes hold as a unit, or the first fault of their text
abbrev pub unit_in : List ℕ → Result PlainUnit CodeFault
unit_in bytes = unit_told bytes (scan (reader []) (tokens_of bytes) AtFormat)

-- the canonical text of a unit: that of its declaration, and behind it that of its program
abbrev pub unit_text : Declared → ProgramTree → List ℕ
unit_text d p = decl_text d ++ code_text p

-- ---- answers; of want of memory nothing is said

-- the fault of a declaration, before which there is no other, so that no name is repeated
abbrev pub fault_of : DeclFault → CodeFault
fault_of (decl.Token place) = fault.Token place
fault_of (decl.Form place) = fault.Form place
fault_of (decl.TooBig place) = fault.TooBig place
fault_of (decl.Repeated place) = fault.Form place
fault_of decl.Memory = fault.Memory

abbrev pub Tells : {A : Type 0} → Result A CodeFault → Result A CodeFault → Type 0
Tells plain (Ok x) = plain ≡ Ok x
Tells plain (Err fault.Memory) = Unit {0}
Tells plain (Err f) = plain ≡ Err f

abbrev pub program_of : Result Program CodeFault → Result ProgramTree CodeFault
program_of (Ok p) = Ok (program_tree p)
program_of (Err f) = Err f

abbrev pub TellsProgram : Result ProgramTree CodeFault → Result Program CodeFault → Type 0
TellsProgram plain result = Tells plain (program_of result)

abbrev pub unit_view : OneUnit → PlainUnit
unit_view u = record { target = decl_view u.target; program = program_tree u.program }

abbrev pub unit_of : Result OneUnit CodeFault → Result PlainUnit CodeFault
unit_of (Ok u) = Ok (unit_view u)
unit_of (Err f) = Err f

abbrev pub TellsUnit : Result PlainUnit CodeFault → Result OneUnit CodeFault → Type 0
TellsUnit plain result = Tells plain (unit_of result)
