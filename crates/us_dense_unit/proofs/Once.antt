-- No bytes are two dense units.
use Rattle.std.proofs.Common.{◌≡◌, ◌<◌, ◌≤◌, ◌^◌, ℕ, List, [], ◌∷◌, ◌++◌, length, drop, false, Result, Ok, Err, refl, sym, ap, ◌∙◌, append_assoc, arith}
use Rattle.std.proofs.lemmas.List.{append_cancel_left}
use Rattle.std.specs.Fmt.{decimal}
use Rattle.us_tokens.specs.Text.{Text, End, Bad, Then, bytes_of}
use Rattle.us_tokens.specs.Lex.{lexed, Between, is_digit}
use Rattle.us_tokens.proofs.Back.{lexed-decimal}
use Rattle.us_code.specs.Plain.{ProgramTree}
use Rattle.us_code_table.specs.Words.{language}
use Rattle.us_code_table.specs.declared.lexeme.Lexeme.{Lexeme}
use Rattle.us_code_table.specs.declared.lexeme.Lexeme.TheVariants as lexeme
use Rattle.us_code_reader.specs.Parses.{answer_on}
use Rattle.us_code_reader.specs.declared.parsed.CodeFault.{CodeFault}
use Rattle.us_unit.specs.Units.{program_told}
use Rattle.us_dense_unit.specs.Dense.{DenseUnit, IsDenseUnit, dense_line}
use Rattle.us_dense_unit.specs.Listing.{DenseUnitReadOnce}

-- ---- numbers

number_read : (n : ℕ) (rest : List ℕ) (a : ℕ) → n < 2 ^ 32 → is_digit a ≡ false
    → lexed language (decimal n ++ (a ∷ rest)) Between ≡ Then (lexeme.Number n) (decimal n) (length (a ∷ rest)) (lexed language (a ∷ rest) Between)
number_read n rest a small stop = lexed-decimal language n (a ∷ rest) (omega (arith, small)) (omega (arith, small)) stop

number_is : (m n : ℕ) (v w : List ℕ) (i j : ℕ) (s t : Text Lexeme) → ◌≡◌ {A = Text Lexeme} (Then (lexeme.Number m) v i s) (Then (lexeme.Number n) w j t) → m ≡ n
number_is m n v w i j s t e = cc

-- digits with a byte behind them that is none are those of one number
pub numbers_once : (m n a : ℕ) (s t : List ℕ) → m < 2 ^ 32 → n < 2 ^ 32 → is_digit a ≡ false → decimal m ++ (a ∷ s) ≡ decimal n ++ (a ∷ t) → (m ≡ n) × (s ≡ t)
numbers_once m n a s t hm hn stop e =
    let same : m ≡ n =
    number_is m n (decimal m) (decimal n) (length (a ∷ s)) (length (a ∷ t)) (lexed language (a ∷ s) Between) (lexed language (a ∷ t) Between)
    (sym (number_read m s a hm stop) ∙ ap (λ w. lexed language w Between) e ∙ number_read n t a hn stop) in
    (same, ap (drop 1) (append_cancel_left (decimal n) (a ∷ s) (a ∷ t) (ap (λ k. decimal k ++ (a ∷ s)) (sym same) ∙ e)))

-- ---- lines

-- the line behind its word, with the bytes behind it
line_rest : (rows cols : ℕ) (behind : List ℕ) → drop 6 (dense_line rows cols ++ behind) ≡ decimal rows ++ (32 ∷ (decimal cols ++ (10 ∷ behind)))
line_rest rows cols behind =
    append_assoc (decimal rows) (32 ∷ (decimal cols ++ (10 ∷ []))) behind
    ∙ ap (λ w. decimal rows ++ (32 ∷ w)) (append_assoc (decimal cols) (10 ∷ []) behind)

lines_once : (r k r' k' : ℕ) (s t : List ℕ) → r < 2 ^ 32 → k < 2 ^ 32 → r' < 2 ^ 32 → k' < 2 ^ 32 → dense_line r k ++ s ≡ dense_line r' k' ++ t
    → (r ≡ r') × (k ≡ k') × (s ≡ t)
lines_once r k r' k' s t hr hk hr' hk' e =
    let one = numbers_once r r' 32 (decimal k ++ (10 ∷ s)) (decimal k' ++ (10 ∷ t)) hr hr' refl (sym (line_rest r k s) ∙ ap (drop 6) e ∙ line_rest r' k' t) in
    let two = numbers_once k k' 10 s t hk hk' refl one.1 in
    (one.0, two.0, two.1)

-- ---- units

ok_is : (p q : ProgramTree) → ◌≡◌ {A = Result ProgramTree CodeFault} (Ok p) (Ok q) → p ≡ q
ok_is p q e = cc

pub unit_once : DenseUnitReadOnce
unit_once u v bytes h k =
    let lines = lines_once u.rows u.cols v.rows v.cols h.behind k.behind h.rows h.cols k.rows k.cols (sym h.line ∙ k.line) in
    let programs = ok_is u.program v.program (sym h.program ∙ ap (λ w. program_told w (answer_on w)) lines.2 ∙ k.program) in
    ap (λ (n : ℕ). record { rows = n; cols = u.cols; program = u.program }) lines.0
    ∙ ap (λ (n : ℕ). record { rows = v.rows; cols = n; program = u.program }) lines.1
    ∙ ap (λ (p : ProgramTree). record { rows = v.rows; cols = v.cols; program = p }) programs
