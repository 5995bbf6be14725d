-- The canonical text of a dense unit reads back.
use Rattle.std.proofs.Common.{◌≡◌, ◌<◌, ◌^◌, ℕ, ◌-◌, List, [], ◌∷◌, ◌++◌, length, drop, Ok, refl, sym, ap, ◌∙◌, subst, append_assoc}
use Rattle.std.proofs.lemmas.List.{append-nil}
use Rattle.us_tokens.specs.Lex.{lexed, Between}
use Rattle.us_tokens.specs.Text.{End}
use Rattle.us_grammar.specs.Reading.{answer}
use Rattle.us_code.specs.Limits.{KeepsLimits}
use Rattle.us_code.specs.Plain.{ProgramTree}
use Rattle.us_code_table.specs.Table.{Whole, grammar}
use Rattle.us_code_table.specs.Words.{language}
use Rattle.us_code_table.specs.Limits.{limits}
use Rattle.us_code_print.specs.Canon.{code_text, open_text}
use Rattle.us_code_print.specs.ReadBack.{IsNamed}
use Rattle.us_code_print.proofs.ReadProgram.{read_back}
use Rattle.us_code_reader.specs.Parses.{answer_on}
use Rattle.us_unit.specs.Units.{ended, program_told}
use Rattle.us_unit.proofs.Back.{behind_is}
use Rattle.us_dense_unit.specs.Dense.{DenseUnit, IsDense, IsDenseUnit, dense_text}

-- the end of the last line is a blank, behind which nothing stands
nothing_more : lexed language (10 ∷ []) Between ≡ End
unfolding lexed
nothing_more = refl

code_line : (p : ProgramTree) → code_text p ≡ (open_text p ++ (125 ∷ [])) ++ (10 ∷ [])
code_line p = sym (append_assoc (open_text p) (125 ∷ []) (10 ∷ []))

-- the text of a program is read as that program, up to the end of its last line
pub code_back : (p : ProgramTree) → KeepsLimits p → IsNamed p → program_told (code_text p) (answer_on (code_text p)) ≡ Ok p
code_back p keeps named =
    let all = code_text p in
    ap (λ w. program_told all (answer grammar limits Whole (lexed language w Between))) (sym (append-nil all))
    ∙ ap (program_told all) (read_back p keeps named [])
    ∙ ap (λ w. ended (length all) p (lexed language w Between)) (behind_is all (open_text p ++ (125 ∷ [])) (10 ∷ []) (code_line p))
    ∙ ap (ended (length all) p) nothing_more

pub dense_back : (u : DenseUnit) → IsDense u → IsDenseUnit u (dense_text u)
dense_back u h = record { behind = code_text u.program; line = refl; rows = h.rows; cols = h.cols; program = code_back u.program h.limits h.named }

pub printed_back : (v : List ℕ) (u : DenseUnit) → v ≡ dense_text u → u.rows < 2 ^ 32 → u.cols < 2 ^ 32 → KeepsLimits u.program → IsNamed u.program → IsDenseUnit u v
printed_back v u e rows cols keeps named = subst (IsDenseUnit u) (sym e) (dense_back u (record { rows = rows; cols = cols; limits = keeps; named = named }))
