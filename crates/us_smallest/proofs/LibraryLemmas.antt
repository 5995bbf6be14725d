-- The canonical text of a declaration, read as a library.
use Rattle.std.proofs.Common.{◌≡◌, ℕ, ◌+◌, List, [], ◌∷◌, ◌++◌, length, Option, Some, None, refl, sym, ap, ◌∙◌}
use Rattle.std.specs.Prelude.{Ok}
use Rattle.std.specs.Option.{option_map}
use Rattle.std.proofs.lemmas.List.{append-nil}
use Rattle.us_tokens.specs.Lex.{Between, lexed}
use Rattle.us_tokens.specs.Reading.{Answer, Broken, Form, NoToken, Read, Whole, at_end, judged, passed, scan}
use Rattle.us_tokens.specs.Text as text
use Rattle.us_tokens.specs.Text.{Text}
use Rattle.us_decl.specs.declared.lexeme.Lexeme.{Lexeme}
use Rattle.us_decl.specs.Declares.{Declared, IsValid}
use Rattle.us_decl.specs.Grammar.{Decl, Empty, Run, Then}
use Rattle.us_decl.specs.Words.{language, token}
use Rattle.us_parse.specs.Machine.{Closed, Opened, done, library_reader, names_of, reader, shelved}
use Rattle.us_parse.specs.Parses.{tokens_of}
use Rattle.us_parse.specs.Piece.{AtFormat, Done, Piece, step}
use Rattle.us_parse.specs.Within.{Break, check}
use Rattle.us_print.specs.Canon.{decl_text}
use Rattle.us_print.specs.ReadBack.{IsReadBack, ReadBackLaw}
use Rattle.us_inputs.specs.Library.{library_in, told}

-- ---- a library that goes on with one declaration

abbrev follow : Run Decl → Answer Lexeme Decl Break → Answer Lexeme (Run Decl) Break
follow ds (Read d behind more) = scan library_reader more (Closed (Then ds d))
follow ds (Whole d) = Form 0
follow ds (NoToken left) = NoToken left
follow ds (Form left) = Form left
follow ds (Broken f left) = Broken f left

done_follows : (ds : Run Decl) (d : Decl) (left behind : ℕ) (more : Text Lexeme) (next : Answer Lexeme Decl Break) (c : Option Break)
    → passed library_reader left behind more (scan library_reader more (Closed (Then ds d))) c None ≡ follow ds (passed (reader (names_of ds)) left behind more next c (Some d))
done_follows ds d left behind more next None = refl
done_follows ds d left behind more next (Some f) = refl

open_follows : (ds : Run Decl) (left behind : ℕ) (more : Text Lexeme) (next : Answer Lexeme (Run Decl) Break) (next' : Answer Lexeme Decl Break) (c : Option Break) → next ≡ follow ds next'
    → passed library_reader left behind more next c None ≡ follow ds (passed (reader (names_of ds)) left behind more next' c None)
open_follows ds left behind more next next' None e = e
open_follows ds left behind more next next' (Some f) e = refl

abbrev Follows : Text Lexeme → Run Decl → Type 0
Follows more ds = (s : Piece) → done s ≡ None → scan library_reader more (Opened ds s) ≡ follow ds (scan (reader (names_of ds)) more s)

judged_follows : (ds : Run Decl) (left behind : ℕ) (more : Text Lexeme) (u : Piece) → Follows more ds
    → judged library_reader left behind more (scan library_reader more) (Some (shelved ds u)) ≡ follow ds (judged (reader (names_of ds)) left behind more (scan (reader (names_of ds)) more) (Some u))
judged_follows ds left behind more (Done d) go = done_follows ds d left behind more (scan (reader (names_of ds)) more (Done d)) (check (names_of ds) (Done d))
judged_follows ds left behind more u go =
    open_follows ds left behind more (scan library_reader more (Opened ds u)) (scan (reader (names_of ds)) more u) (check (names_of ds) u) (go u refl)

step_follows : (ds : Run Decl) (left behind : ℕ) (more : Text Lexeme) (o : Option Piece) → Follows more ds
    → judged library_reader left behind more (scan library_reader more) (option_map (shelved ds) o) ≡ follow ds (judged (reader (names_of ds)) left behind more (scan (reader (names_of ds)) more) o)
step_follows ds left behind more None go = refl
step_follows ds left behind more (Some u) go = judged_follows ds left behind more u go

end_follows : (ds : Run Decl) (o : Option Decl) → o ≡ None → at_end library_reader (option_map (Then ds) o) ≡ follow ds (at_end (reader (names_of ds)) o)
end_follows ds None e = refl
end_follows ds (Some d) e = absurd cc

opened_follows : (old : Text Lexeme) (ds : Run Decl) → Follows old ds
opened_follows text.End ds = λ s e. end_follows ds (done s) e
opened_follows (text.Bad left) ds = λ s e. refl
opened_follows (text.Then k w behind more) ds = λ s e. step_follows ds (length w + behind) behind more (step s (token k w)) (opened_follows more ds)

-- ---- the first declaration

first_follows : (old : Text Lexeme) (d : Decl) (behind : ℕ) (more : Text Lexeme) → scan (reader []) old AtFormat ≡ Read d behind more
    → scan library_reader old (Closed Empty) ≡ scan library_reader more (Closed (Then Empty d))
first_follows text.End d behind more e = absurd cc
first_follows (text.Bad left) d behind more e = absurd cc
first_follows (text.Then k w left rest) d behind more e =
    step_follows Empty (length w + left) left rest (step AtFormat (token k w)) (opened_follows rest Empty) ∙ ap (follow Empty) e

-- nothing stands behind the end of a line
line_ends : lexed language (10 ∷ []) Between ≡ text.End
unfolding lexed
line_ends = refl

-- a text is read as one declaration up to its last line feed, so it is a library of it
one_library : (d : Declared) (bytes : List ℕ) → bytes ≡ decl_text d ++ [] → IsReadBack d [] → library_in bytes ≡ Ok (d ∷ [])
one_library d bytes e back =
    ap library_in e
    ∙ ap (told (length (decl_text d ++ []))) (first_follows (tokens_of (decl_text d ++ [])) back.text 1 (lexed language (10 ∷ []) Between) back.read)
    ∙ ap (λ (more : Text Lexeme). told (length (decl_text d ++ [])) (scan library_reader more (Closed (Then Empty back.text)))) line_ends
    ∙ ap (λ (x : Declared). Ok (x ∷ [])) back.is

pub text_is_library : ReadBackLaw → (d : Declared) (bytes : List ℕ) → IsValid d → bytes ≡ decl_text d → library_in bytes ≡ Ok (d ∷ [])
text_is_library law d bytes valid e = one_library d bytes (e ∙ sym (append-nil (decl_text d))) (law d valid [])
