-- The canonical text of a valid declaration is read back as this declaration, whatever bytes follow.
use Rattle.std.proofs.Common.{◌≡◌, ℕ, List, [], ◌∷◌, ◌++◌, length, true, refl, sym, ap, ◌∙◌, append_assoc}
use Rattle.us_tokens.specs.Text.{Text, Then}
use Rattle.us_tokens.specs.Lex.{lexed, Between}
use Rattle.us_tokens.specs.Reading.{scan, Read, Answer, put, tokens_of}
use Rattle.us_tokens.proofs.Reading.{reads_back}
use Rattle.us_decl.specs.Token.{Fixed, Name}
use Rattle.us_decl.specs.declared.mark.Mark.TheVariants as mark
use Rattle.us_decl.specs.declared.lexeme.Lexeme.{Lexeme}
use Rattle.us_decl.specs.declared.lexeme.Lexeme.TheVariants as lexeme
use Rattle.us_decl.specs.Words.{language}
use Rattle.us_decl.specs.Grammar.{Decl, decl_tokens, body_tokens}
use Rattle.us_parse.specs.Piece.{AtFormat}
use Rattle.us_parse.specs.Machine.{reader}
use Rattle.us_parse.specs.Within.{Break}
use Rattle.us_decl.specs.Limits.{fits_decl}
use Rattle.us_decl.specs.Declares.{declared}
use Rattle.us_print.specs.Canon.{decl_text, open_text}
use Rattle.us_print.specs.ReadBack.{ReadBackLaw, CanonLaw}
use Rattle.us_parse.proofs.Held.{held}
use Rattle.us_print.proofs.Kept.{keeps}
use Rattle.us_print.proofs.Plain.{plain_decl, plain_body, declared_plain, fits_plain_decl}
use Rattle.us_print.proofs.CanonTokens.{open_lies}

brace_ends : (rest : List ℕ) → lexed language (125 ∷ rest) Between ≡ Then (lexeme.Fixed mark.BraceClose) (125 ∷ []) (length rest) (lexed language rest Between)
unfolding lexed
brace_ends [] = refl
brace_ends (b ∷ bs) = refl

abbrev read_from : List ℕ → Answer Lexeme Decl Break
read_from bytes = scan (reader []) (lexed language bytes Between) AtFormat

read_text : (d : Decl) → fits_decl d ≡ true → (rest : List ℕ) → read_from (decl_text (declared d) ++ rest) ≡ Read (plain_decl d) (length (10 ∷ rest)) (lexed language (10 ∷ rest) Between)
read_text d fits rest =
    let open_ = open_text (declared d) in
    let after = lexed language (10 ∷ rest) Between in
    let p = open_lies d fits (125 ∷ 10 ∷ rest) in
    let start = Fixed mark.Format ∷ Name d.name ∷ Fixed mark.BraceOpen ∷ [] in
    let body = body_tokens (plain_body d.body) in
    let tokens : tokens_of (reader []) p.front ++ (Fixed mark.BraceClose ∷ []) ≡ decl_tokens (plain_decl d) =
    ap (λ ts. ts ++ (Fixed mark.BraceClose ∷ [])) p.spelled ∙ append_assoc start body (Fixed mark.BraceClose ∷ []) in
    ap read_from (append_assoc open_ (125 ∷ 10 ∷ []) rest)
    ∙ ap (λ t. scan (reader []) t AtFormat) (p.is ∙ ap (put p.front) (brace_ends (10 ∷ rest)))
    ∙ reads_back (reader []) (held []) p.front (lexeme.Fixed mark.BraceClose) (125 ∷ []) (length (10 ∷ rest)) after (plain_decl d) refl tokens (keeps (plain_decl d) (fits_plain_decl d fits))

pub read_back : ReadBackLaw
read_back d valid rest = record {
  text = plain_decl valid.text;
  is = declared_plain valid.text ∙ valid.is;
  read = ap (λ x. read_from (decl_text x ++ rest)) (sym valid.is) ∙ read_text valid.text valid.within rest;
}

read_is : (a b : Decl) (m n : ℕ) (s t : Text Lexeme) → ◌≡◌ {A = Answer Lexeme Decl Break} (Read a m s) (Read b n t) → a ≡ b
read_is a b m n s t e = cc

pub texts_differ : CanonLaw
texts_differ a b valid_a valid_b e =
    let p = read_back a valid_a [] in
    let q = read_back b valid_b [] in
    sym p.is ∙ ap declared (read_is p.text q.text 1 1 (lexed language (10 ∷ []) Between) (lexed language (10 ∷ []) Between) (sym p.read ∙ ap (λ x. read_from (x ++ [])) e ∙ q.read)) ∙ q.is
