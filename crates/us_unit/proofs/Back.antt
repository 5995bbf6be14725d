-- The canonical text of a unit reads back.
use Rattle.std.proofs.Common.{◌≡◌, ℕ, ◌-◌, List, [], ◌∷◌, ◌++◌, length, drop, Ok, refl, sym, ap, ◌∙◌, append_assoc, length-append, arith}
use Rattle.std.proofs.lemmas.List.{append-nil}
use Rattle.std.proofs.Math.Seq.{drop-append_seam}
use Rattle.us_tokens.specs.Lex.{lexed, Between}
use Rattle.us_tokens.specs.Text.{End}
use Rattle.us_grammar.specs.Reading.{answer}
use Rattle.us_code.specs.Limits.{KeepsLimits}
use Rattle.us_code.specs.Plain.{ProgramTree}
use Rattle.us_code_table.specs.Table.{Whole, grammar}
use Rattle.us_code_table.specs.Words.{language}
use Rattle.us_code_table.specs.Limits.{limits}
use Rattle.us_code_print.specs.Canon.{code_text}
use Rattle.us_code_print.specs.Canon as code
use Rattle.us_code_print.specs.ReadBack.{IsNamed}
use Rattle.us_code_print.proofs.ReadProgram.{read_back}
use Rattle.us_code_reader.specs.Parses.{answer_on}
use Rattle.us_decl.specs.Declares.{Declared, IsValid}
use Rattle.us_print.specs.Canon.{decl_text}
use Rattle.us_print.specs.Canon as decl
use Rattle.us_print.proofs.RoundTrip as declaration
use Rattle.us_unit.specs.Units.{ended, held_with, program_told, unit_in, unit_text, unit_told, unit_with}

-- what is left of a text behind its front
pub behind_is : (all front rest : List ℕ) → all ≡ front ++ rest → drop (length all - length rest) all ≡ rest
behind_is all front rest e =
    let size : length all - length rest ≡ length front = omega (arith, ap length e, length-append front rest) in
    ap (λ n. drop n all) size ∙ ap (drop (length front)) e ∙ drop-append_seam front rest

-- the end of a line is a blank
line_end : (bs : List ℕ) → lexed language (10 ∷ bs) Between ≡ lexed language bs Between
unfolding lexed
line_end bs = refl

no_more : lexed language [] Between ≡ End
unfolding lexed
no_more = refl

-- a canonical text ends with the end of a line
pub decl_line : (d : Declared) (rest : List ℕ) → decl_text d ++ rest ≡ (decl.open_text d ++ (125 ∷ [])) ++ (10 ∷ rest)
decl_line d rest = append_assoc (decl.open_text d) (125 ∷ 10 ∷ []) rest ∙ sym (append_assoc (decl.open_text d) (125 ∷ []) (10 ∷ rest))

code_line : (front : List ℕ) (p : ProgramTree) → front ++ code_text p ≡ (front ++ (code.open_text p ++ (125 ∷ []))) ++ (10 ∷ [])
code_line front p = ap (λ w. front ++ w) (sym (append_assoc (code.open_text p) (125 ∷ []) (10 ∷ []))) ∙ sym (append_assoc front (code.open_text p ++ (125 ∷ [])) (10 ∷ []))

-- the program is read from the end of the line before it, up to the end of its last line
program_read : (p : ProgramTree) → KeepsLimits p → IsNamed p → answer_on (10 ∷ code_text p) ≡ answer grammar limits Whole (lexed language (code_text p ++ []) Between)
program_read p keeps named = ap (answer grammar limits Whole) (line_end (code_text p) ∙ ap (λ w. lexed language w Between) (sym (append-nil (code_text p))))

program_back : (d : Declared) (p : ProgramTree) → KeepsLimits p → IsNamed p
    → program_told (unit_text d p) (answer_on (drop (length (unit_text d p) - length (10 ∷ code_text p)) (unit_text d p))) ≡ Ok p
program_back d p keeps named =
    let all = unit_text d p in
    ap (λ w. program_told all (answer_on w)) (behind_is all (decl.open_text d ++ (125 ∷ [])) (10 ∷ code_text p) (decl_line d (code_text p)))
    ∙ ap (program_told all) (program_read p keeps named ∙ read_back p keeps named [])
    ∙ ap (λ w. ended (length all) p (lexed language w Between)) (behind_is all (decl_text d ++ (code.open_text p ++ (125 ∷ []))) (10 ∷ []) (code_line (decl_text d) p))
    ∙ ap (ended (length all) p) (line_end [] ∙ no_more)

pub unit_back : (d : Declared) (p : ProgramTree) → IsValid d → KeepsLimits p → IsNamed p → unit_in (unit_text d p) ≡ Ok (record { target = d; program = p })
unit_back d p valid keeps named =
    let all = unit_text d p in
    let q = declaration.read_back d valid (code_text p) in
    ap (unit_told all) q.read ∙ ap (λ x. unit_with all x (length all - length (10 ∷ code_text p))) q.is ∙ ap (held_with d) (program_back d p keeps named)

pub printed_back : (v : List ℕ) (d : Declared) (p : ProgramTree) → v ≡ unit_text d p → IsValid d → KeepsLimits p → IsNamed p → unit_in v ≡ Ok (record { target = d; program = p })
printed_back v d p e valid keeps named = ap unit_in e ∙ unit_back d p valid keeps named
