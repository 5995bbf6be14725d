-- Parsing what was printed gives the declaration back.
use Rattle.std.proofs.Common.{◌≡◌, ◌+◌, ℕ, suc, List, [], ◌∷◌, ◌++◌, length, Result, Ok, Err, refl, sym, ap, ◌∙◌, length-append, arith}
use Rattle.std.proofs.Math.Seq.{drop-append_seam}
use Rattle.us_tokens.specs.Text.{Text}
use Rattle.us_tokens.specs.Reading.{Answer, Read, NoToken, Form, scan}
use Rattle.us_decl.specs.declared.lexeme.Lexeme.{Lexeme}
use Rattle.us_decl.specs.declared.decl.Decl.{Decl as Value}
use Rattle.us_parse.specs.declared.parsed.OneDecl.{OneDecl}
use Rattle.us_parse.specs.declared.parsed.DeclFault.{DeclFault}
use Rattle.us_parse.specs.declared.parsed.DeclFault.TheVariants as fault
use Rattle.us_decl.specs.Grammar.{Decl}
use Rattle.us_parse.specs.Piece.{AtFormat}
use Rattle.us_parse.specs.Machine.{reader}
use Rattle.us_parse.specs.Within.{Break}
use Rattle.us_decl.specs.Declares.{declared}
use Rattle.us_decl.specs.Views.{decl_view}
use Rattle.us_print.specs.Canon.{decl_text}
use Rattle.us_parse.specs.Parses.{tokens_of, TellsOneResult}
use Rattle.us_print.specs.ReadBack.{GivesBack, ParseBackLaw}
use Rattle.us_print.proofs.RoundTrip.{read_back}
use Rattle.us_print.proofs.ViewTells.{view_tells}

text_is : (a b : Decl) (m n : ℕ) (s t : Text Lexeme) → ◌≡◌ {A = Answer Lexeme Decl Break} (Read a m s) (Read b n t) → (a ≡ b) × (m ≡ n)
text_is a b m n s t e = (let h : a ≡ b = cc in h, let h : m ≡ n = cc in h)

told : (d : Value) (before rest : List ℕ) (result : Result OneDecl DeclFault) (answer : Answer Lexeme Decl Break) (text : Decl) (more : Text Lexeme) (len : ℕ) → declared text ≡ decl_view d → answer ≡ Read text (length (10 ∷ rest)) more
    → len ≡ length (before ++ (decl_text (decl_view d) ++ rest)) → TellsOneResult len result answer → GivesBack d before result
told d before rest (Ok one) answer text more len is read size tells =
    let p = text_is tells.text text tells.behind (length (10 ∷ rest)) tells.more more (sym tells.is ∙ read) in
    let same : decl_view one.decl ≡ decl_view d = tells.view ∙ ap declared p.0 ∙ is in
    let all = decl_text (decl_view d) in
    let left : tells.behind ≡ suc (length rest) = p.1 in
    let inner : length (all ++ rest) ≡ length all + length rest = length-append all rest in
    let outer : length (before ++ (all ++ rest)) ≡ length before + length (all ++ rest) = length-append before (all ++ rest) in
    let end : one.end + tells.behind ≡ len = tells.end_is in
    (view_tells one.decl d same, omega arith)
told d before rest (Err (fault.Token place)) answer text more len is read size tells = let e : answer ≡ NoToken tells.0 = tells.1 in absurd cc
told d before rest (Err (fault.Form place)) answer text more len is read size tells = let e : answer ≡ Form tells.0 = tells.1 in absurd cc
told d before rest (Err (fault.TooBig place)) answer text more len is read size tells = let e = tells.1 in absurd cc
told d before rest (Err (fault.Repeated place)) answer text more len is read size tells = let e = tells.1 in absurd cc
told d before rest (Err fault.Memory) answer text more len is read size tells = refl

pub parse_back : ParseBackLaw
parse_back d valid before rest result p =
    let q = read_back (decl_view d) valid rest in
    let bytes = decl_text (decl_view d) ++ rest in
    let read = sym p.reads ∙ ap (λ x. scan (reader []) (tokens_of x) AtFormat) (drop-append_seam before bytes) ∙ q.read in
    told d before rest result p.answer q.text (tokens_of (10 ∷ rest)) (length (before ++ bytes)) q.is read refl p.tells
