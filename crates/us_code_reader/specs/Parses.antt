-- What parsing answers.
use Rattle.std.specs.Prelude.{◌≡◌, ◌+◌, ◌-◌, ◌≤◌, ℕ, List, [], ◌∷◌, drop, length, Result, Ok, Err}
use Rattle.us_tokens.specs.Text.{Text}
use Rattle.us_tokens.specs.Lex.{lexed, Between}
use Rattle.us_grammar.specs.Grammar.{Part}
use Rattle.us_grammar.specs.Reading.{Answer, Read, NoToken, Form, Broken, answer, scan}
use Rattle.us_code.specs.Plain.{ProgramTree, program_tree}
use Rattle.us_code.specs.declared.program.Program.{Program}
use Rattle.us_code_table.specs.Table.{Whole, grammar}
use Rattle.us_code_table.specs.Words.{language}
use Rattle.us_code_table.specs.Limits.{Break, limits}
use Rattle.us_code_table.specs.declared.lexeme.Lexeme.{Lexeme}
use Rattle.us_code_text.specs.declared.reader.Reader.{Reader}
use Rattle.us_code_text.specs.declared.stop.Stop.{Stop}
use Rattle.us_code_text.specs.declared.stop.Stop.TheVariants as stop
use Rattle.us_code_text.specs.Reads.{text_of, count_of, answer_of, Is}
use Rattle.us_code_reader.specs.declared.parsed.OneProgram.{OneProgram}
use Rattle.us_code_reader.specs.declared.parsed.CodeFault.{CodeFault}
use Rattle.us_code_reader.specs.declared.parsed.CodeFault.TheVariants as fault

-- the grammar's answer on bytes: the program with how many bytes are left behind it, or the first fault
abbrev pub answer_on : List ℕ → Answer Lexeme ProgramTree Break
answer_on bytes = answer grammar limits Whole (lexed language bytes Between)

-- a result tells an answer on a text of so many bytes; of want of memory nothing is said
abbrev pub Answers : ℕ → Answer Lexeme ProgramTree Break → Result OneProgram CodeFault → Type 0
Answers len a (Err fault.Memory) = Unit {0}
Answers len (Read p behind more) (Ok one) = (program_tree one.program ≡ p) × (one.end + behind ≡ len)
Answers len (NoToken left) (Err (fault.Token place)) = place + left ≡ len
Answers len (Form left) (Err (fault.Form place)) = place + left ≡ len
Answers len (Broken f left) (Err (fault.TooBig place)) = place + left ≡ len
Answers len _ _ = ⊥

-- the result of parsing from a place on
abbrev pub Parses : List ℕ → ℕ → Result OneProgram CodeFault → Type 0
Parses bytes from result = Answers (length bytes) (answer_on (drop from bytes)) result

-- this program was read, and so many bytes of all are left behind it; or there is no memory
abbrev pub IsParsedAs : ProgramTree → ℕ → ℕ → Result OneProgram CodeFault → Type 0
IsParsedAs p len behind (Ok one) = (program_tree one.program ≡ p) × (one.end + behind ≡ len)
IsParsedAs p len behind (Err e) = e ≡ fault.Memory

-- how many bytes are left at a fault
abbrev pub left_at : Stop → ℕ
left_at (stop.Token n) = n
left_at (stop.Form n) = n
left_at (stop.TooBig n) = n
left_at stop.Memory = 0

abbrev pub fault_of : ℕ → Stop → CodeFault
fault_of len (stop.Token n) = fault.Token (len - n)
fault_of len (stop.Form n) = fault.Form (len - n)
fault_of len (stop.TooBig n) = fault.TooBig (len - n)
fault_of len stop.Memory = fault.Memory

-- a program was read up to its last brace, with how many bytes are left behind that
abbrev pub ReadsWhole : Reader → Result (Program × ℕ) Stop → Type 0
ReadsWhole r (Ok x) = (more : Text Lexeme) × (scan grammar limits (text_of r) (count_of r) (Part Whole ∷ []) (λ vs. vs.0) ≡ Read (program_tree x.0) x.1 more)
ReadsWhole r (Err e) = Is (scan grammar limits (text_of r) (count_of r) (Part Whole ∷ []) (λ vs. vs.0)) (answer_of e)

abbrev pub ReadsCode : List ℕ → Result (Program × ℕ) Stop → Type 0
ReadsCode bytes (Ok x) = (more : Text Lexeme) × (answer_on bytes ≡ Read (program_tree x.0) x.1 more) × (x.1 ≤ length bytes)
ReadsCode bytes (Err e) = Is (answer_on bytes) (answer_of e) × (left_at e ≤ length bytes)
