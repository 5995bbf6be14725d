-- A printed program is parsed as itself, and a parsed one keeps the limits.
use Rattle.std.proofs.Common.{◌≡◌, ℕ, List, ◌∷◌, ◌++◌, length, drop, Result, Ok, Err, refl, sym, subst, arith, length-append}
use Rattle.us_tokens.specs.Text.{Text}
use Rattle.us_tokens.specs.Lex.{lexed, Between}
use Rattle.us_grammar.specs.Reading.{Answer, Read, Whole, NoToken, Form, Broken, answer}
use Rattle.us_code.specs.Limits.{KeepsLimits}
use Rattle.us_code.specs.Plain.{ProgramTree, program_tree}
use Rattle.us_code_table.specs.Table.{grammar}
use Rattle.us_code_table.specs.Table as table
use Rattle.us_code_table.specs.Words.{language}
use Rattle.us_code_table.specs.Limits.{Break, limits}
use Rattle.us_code_table.specs.declared.lexeme.Lexeme.{Lexeme}
use Rattle.us_code_print.specs.Canon.{code_text}
use Rattle.us_code_print.specs.ReadBack.{IsNamed}
use Rattle.us_code_print.proofs.ReadProgram.{read_back}
use Rattle.us_code_texts.proofs.Kept.{reading_keeps}
use Rattle.us_code_reader.specs.declared.parsed.CodeFault.{CodeFault}
use Rattle.us_code_reader.specs.declared.parsed.OneProgram.{OneProgram}
use Rattle.us_code_reader.specs.Parses.{Answers, IsParsedAs, Parses, answer_on}
use Rattle.us_code_reader.proofs.Whole.{is_parsed}

-- what follows doesn't count
ends_alike : (before text more : List ℕ) (p : ProgramTree) (o : Result OneProgram CodeFault) → IsParsedAs p (length (before ++ (text ++ more))) (length (10 ∷ more)) o → IsParsedAs p (length (before ++ text)) 1 o
ends_alike before text more p (Ok one) h = (h.0, omega (arith, h.1, length-append before (text ++ more), length-append text more, length-append before text))
ends_alike before text more p (Err e) h = h

pub parsed_back : (before more : List ℕ) (p : ProgramTree) (o : Result OneProgram CodeFault) → KeepsLimits p → IsNamed p → Parses (before ++ (code_text p ++ more)) (length before) o → IsParsedAs p (length (before ++ code_text p)) 1 o
parsed_back before more p o keeps named h = ends_alike before (code_text p) more p o (is_parsed before (code_text p ++ more) p (length (10 ∷ more)) _ o (read_back p keeps named more) h)

abbrev Keeps : ProgramTree → Type 0
Keeps p = KeepsLimits p × IsNamed p

module _ (all : Text Lexeme) (len : ℕ) (one : OneProgram) where
  answer_keeps : (a : Answer Lexeme ProgramTree Break) → answer grammar limits table.Whole all ≡ a → Answers len a (Ok one) → Keeps (program_tree one.program)
  answer_keeps (Read p behind more) e h = subst (λ z. Keeps z) (sym h.0) (reading_keeps all p behind more e)
  answer_keeps (Whole p) e h = absurd h
  answer_keeps (NoToken left) e h = absurd h
  answer_keeps (Form left) e h = absurd h
  answer_keeps (Broken f left) e h = absurd h

pub parsed_keeps : (bytes : List ℕ) (from : ℕ) (one : OneProgram) → Parses bytes from (Ok one) → Keeps (program_tree one.program)
parsed_keeps bytes from one h = answer_keeps (lexed language (drop from bytes) Between) (length bytes) one (answer_on (drop from bytes)) refl h

pub prints_back : (bytes : List ℕ) (from : ℕ) (one : OneProgram) (before more : List ℕ) (o : Result OneProgram CodeFault) → Parses bytes from (Ok one)
    → Parses (before ++ (code_text (program_tree one.program) ++ more)) (length before) o → IsParsedAs (program_tree one.program) (length (before ++ code_text (program_tree one.program))) 1 o
prints_back bytes from one before more o h again =
    let kept = parsed_keeps bytes from one h in
    parsed_back before more (program_tree one.program) o kept.0 kept.1 again
