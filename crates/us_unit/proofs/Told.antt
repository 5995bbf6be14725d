-- What was read, as the definition of units tells it.
use Rattle.std.proofs.Common.{◌≡◌, ℕ, ◌+◌, ◌-◌, ◌≤◌, List, length, drop, Result, Ok, Err, refl, sym, ap, ◌∙◌, subst, arith}
use Rattle.us_tokens.specs.Lex.{lexed, Between}
use Rattle.us_tokens.specs.Text.{Text}
use Rattle.us_tokens.specs.Text as text
use Rattle.us_grammar.specs.Reading as code
use Rattle.us_decl.specs.Declares.{Declared}
use Rattle.us_decl.specs.Views.{decl_view}
use Rattle.us_parse.specs.Parses.{ParsesOne}
use Rattle.us_parse.specs.declared.parsed.DeclFault.{DeclFault}
use Rattle.us_parse.specs.declared.parsed.DeclFault.TheVariants as decl
use Rattle.us_parse.specs.declared.parsed.OneDecl.{OneDecl}
use Rattle.us_code.specs.Plain.{ProgramTree, program_tree}
use Rattle.us_code_table.specs.declared.lexeme.Lexeme.{Lexeme}
use Rattle.us_code_table.specs.Words.{language}
use Rattle.us_code_table.specs.Limits.{Break}
use Rattle.us_code_reader.specs.declared.parsed.CodeFault.{CodeFault}
use Rattle.us_code_reader.specs.declared.parsed.CodeFault.TheVariants as fault
use Rattle.us_code_reader.specs.declared.parsed.OneProgram.{OneProgram}
use Rattle.us_code_reader.specs.Parses.{Answers, Parses, answer_on}
use Rattle.us_code.specs.declared.program.Program.{Program}
use Rattle.us_unit.specs.Units.{PlainUnit, Tells, TellsProgram, TellsUnit, ended, fault_of, held_with, program_told, unit_in, unit_told, unit_with}
use Rattle.us_unit.specs.declared.unit.OneUnit.{OneUnit}

place_is : (len left place : ℕ) → place + left ≡ len → len - left ≡ place
place_is len left place h = omega arith

-- ---- the program

-- a program that was read
abbrev ReadAs : List ℕ → OneProgram → code.Answer Lexeme ProgramTree Break → Type 0
ReadAs bytes one a =
    (program_told bytes a ≡ ended (length bytes) (program_tree one.program) (lexed language (drop one.end bytes) Between)) × (one.end ≤ length bytes)

read_as : (bytes : List ℕ) (one : OneProgram) (a : code.Answer Lexeme ProgramTree Break) → Answers (length bytes) a (Ok one) → ReadAs bytes one a
read_as bytes one (code.Read p behind more) h =
    let at : length bytes - behind ≡ one.end = place_is (length bytes) behind one.end h.1 in
    let within : one.end ≤ length bytes = omega (arith, h.1) in (
      ap (λ q. ended (length bytes) q (lexed language (drop (length bytes - behind) bytes) Between)) (sym h.0)
          ∙ ap (λ n. ended (length bytes) (program_tree one.program) (lexed language (drop n bytes) Between)) at,
      within,
    )
read_as bytes one (code.Whole p) h = absurd h
read_as bytes one (code.NoToken left) h = absurd h
read_as bytes one (code.Form left) h = absurd h
read_as bytes one (code.Broken limit left) h = absurd h

pub program_within : (bytes : List ℕ) (from : ℕ) (one : OneProgram) → Parses bytes from (Ok one) → one.end ≤ length bytes
program_within bytes from one h = (read_as bytes one (answer_on (drop from bytes)) h).1

pub program_is : (bytes : List ℕ) (from : ℕ) (one : OneProgram) (result : Result Program CodeFault) → Parses bytes from (Ok one)
    → TellsProgram (ended (length bytes) (program_tree one.program) (lexed language (drop one.end bytes) Between)) result → TellsProgram (program_told bytes (answer_on (drop from bytes))) result
program_is bytes from one result h t = subst (λ r. TellsProgram r result) (sym (read_as bytes one (answer_on (drop from bytes)) h).0) t

-- a fault of the program
fault_as : (bytes : List ℕ) (f : CodeFault) (a : code.Answer Lexeme ProgramTree Break) → Answers (length bytes) a (Err f) → Tells {A = ProgramTree} (program_told bytes a) (Err f)
fault_as bytes fault.Memory a h = tt
fault_as bytes (fault.Token place) (code.NoToken left) h = ap (λ n. Err (fault.Token n)) (place_is (length bytes) left place h)
fault_as bytes (fault.Form place) (code.Form left) h = ap (λ n. Err (fault.Form n)) (place_is (length bytes) left place h)
fault_as bytes (fault.TooBig place) (code.Broken limit left) h = ap (λ n. Err (fault.TooBig n)) (place_is (length bytes) left place h)
fault_as bytes (fault.Token place) (code.Whole p) h = absurd h
fault_as bytes (fault.Form place) (code.Whole p) h = absurd h
fault_as bytes (fault.TooBig place) (code.Whole p) h = absurd h
fault_as bytes (fault.Token place) (code.Read p behind more) h = absurd h
fault_as bytes (fault.Token place) (code.Form left) h = absurd h
fault_as bytes (fault.Token place) (code.Broken limit left) h = absurd h
fault_as bytes (fault.Form place) (code.Read p behind more) h = absurd h
fault_as bytes (fault.Form place) (code.NoToken left) h = absurd h
fault_as bytes (fault.Form place) (code.Broken limit left) h = absurd h
fault_as bytes (fault.TooBig place) (code.Read p behind more) h = absurd h
fault_as bytes (fault.TooBig place) (code.NoToken left) h = absurd h
fault_as bytes (fault.TooBig place) (code.Form left) h = absurd h

pub program_fault : (bytes : List ℕ) (from : ℕ) (f : CodeFault) → Parses bytes from (Err f) → Tells {A = ProgramTree} (program_told bytes (answer_on (drop from bytes))) (Err f)
program_fault bytes from f h = fault_as bytes f (answer_on (drop from bytes)) h

-- ---- what stands behind

pub nothing_left : (len : ℕ) (p : ProgramTree) (behind : Text Lexeme) → Tells {A = Unit {0}} (ended {A = Unit {0}} len tt behind) (Ok tt) → ended len p behind ≡ Ok p
nothing_left len p text.End h = refl
nothing_left len p (text.Bad left) h = cc
nothing_left len p (text.Then k w n more) h = cc

pub something_left : (len : ℕ) (p : ProgramTree) (behind : Text Lexeme) (f : CodeFault) → Tells {A = Unit {0}} (ended {A = Unit {0}} len tt behind) (Err f) → Tells {A = ProgramTree} (ended len p behind) (Err f)
something_left len p behind fault.Memory h = tt
something_left len p text.End (fault.Token place) h = cc
something_left len p text.End (fault.Form place) h = cc
something_left len p text.End (fault.TooBig place) h = cc
something_left len p (text.Bad left) (fault.Token place) h =
    let e : len - left ≡ place = cc in
    ap (λ n. Err (fault.Token n)) e
something_left len p (text.Bad left) (fault.Form place) h = cc
something_left len p (text.Bad left) (fault.TooBig place) h = cc
something_left len p (text.Then k w n more) (fault.Token place) h = cc
something_left len p (text.Then k w n more) (fault.Form place) h =
    let e : len - (length w + n) ≡ place = cc in
    ap (λ n. Err (fault.Form n)) e
something_left len p (text.Then k w n more) (fault.TooBig place) h = cc

-- ---- the declaration

with_target : (d : Declared) (p : Result ProgramTree CodeFault) (f : CodeFault) → Tells p (Err f) → Tells (held_with d p) (Err f)
with_target d p fault.Memory h = tt
with_target d p (fault.Token place) h = ap (held_with d) h
with_target d p (fault.Form place) h = ap (held_with d) h
with_target d p (fault.TooBig place) h = ap (held_with d) h

pub unit_fault : (bytes : List ℕ) (d : Declared) (from : ℕ) (f : CodeFault) → Tells {A = ProgramTree} (program_told bytes (answer_on (drop from bytes))) (Err f)
    → Tells {A = PlainUnit} (unit_with bytes d from) (Err f)
unit_fault bytes d from f h = with_target d (program_told bytes (answer_on (drop from bytes))) f h

pub unit_read : (bytes : List ℕ) (d : Declared) (from : ℕ) (p : ProgramTree) → program_told bytes (answer_on (drop from bytes)) ≡ Ok p → unit_with bytes d from ≡ Ok (record { target = d; program = p })
unit_read bytes d from p h = ap (held_with d) h

pub target_within : (bytes : List ℕ) (one : OneDecl) → ParsesOne bytes 0 (Ok one) → one.end ≤ length bytes
target_within bytes one p =
    let e : one.end + p.tells.behind ≡ length bytes = p.tells.end_is in
    omega (arith, e)

pub target_is : (bytes : List ℕ) (one : OneDecl) (result : Result OneUnit CodeFault) → ParsesOne bytes 0 (Ok one) → TellsUnit (unit_with bytes (decl_view one.decl) one.end) result
    → TellsUnit (unit_in bytes) result
target_is bytes one result p t =
    let at : length bytes - p.tells.behind ≡ one.end = place_is (length bytes) p.tells.behind one.end p.tells.end_is in
    let same : unit_in bytes ≡ unit_with bytes (decl_view one.decl) one.end =
    ap (unit_told bytes) (p.reads ∙ p.tells.is) ∙ ap (λ d. unit_with bytes d (length bytes - p.tells.behind)) (sym p.tells.view) ∙ ap (unit_with bytes (decl_view one.decl)) at in
    subst (λ r. TellsUnit r result) (sym same) t

pub target_fault : (bytes : List ℕ) (f : DeclFault) → ParsesOne bytes 0 (Err f) → Tells {A = PlainUnit} (unit_in bytes) (Err (fault_of f))
target_fault bytes decl.Memory p = tt
target_fault bytes (decl.Token place) p = ap (unit_told bytes) (p.reads ∙ p.tells.1) ∙ ap (λ n. Err (fault.Token n)) (place_is (length bytes) p.tells.0 place p.tells.2)
target_fault bytes (decl.Form place) p = ap (unit_told bytes) (p.reads ∙ p.tells.1) ∙ ap (λ n. Err (fault.Form n)) (place_is (length bytes) p.tells.0 place p.tells.2)
target_fault bytes (decl.TooBig place) p = ap (unit_told bytes) (p.reads ∙ p.tells.1) ∙ ap (λ n. Err (fault.TooBig n)) (place_is (length bytes) p.tells.0 place p.tells.2)
target_fault bytes (decl.Repeated place) p = ap (unit_told bytes) (p.reads ∙ p.tells.1) ∙ ap (λ n. Err (fault.Form n)) (place_is (length bytes) p.tells.0 place p.tells.2)

pub target_fault_at : (bytes : List ℕ) (f : DeclFault) (e : CodeFault) → e ≡ fault_of f → ParsesOne bytes 0 (Err f) → Tells {A = PlainUnit} (unit_in bytes) (Err e)
target_fault_at bytes f e same p = subst (λ x. Tells {A = PlainUnit} (unit_in bytes) (Err x)) (sym same) (target_fault bytes f p)
