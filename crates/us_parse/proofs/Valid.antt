-- What is read is valid.
use Rattle.std.proofs.Common.{◌≡◌, ℕ, List, [], ◌∷◌, ◌++◌, Some, None, Bool, true, false, cond, not, refl, sym, ap, ◌∙◌, append_assoc}
use Rattle.std.proofs.lemmas.List.{append-nil}
use Rattle.us_tokens.specs.Text.{Text}
use Rattle.us_tokens.specs.Reading.{run, Keeps, IsRead}
use Rattle.us_tokens.proofs.Reading as steps
use Rattle.us_decl.specs.declared.lexeme.Lexeme.{Lexeme}
use Rattle.us_decl.specs.declared.mark.Mark.TheVariants as mark
use Rattle.us_decl.specs.Token.{Token, Fixed, Name}
use Rattle.us_decl.specs.Grammar.{Run, Empty, Then, Decl, decl_tokens, body_tokens}
use Rattle.us_parse.specs.Piece.{AtBrace, Done}
use Rattle.us_decl.specs.Limits.{all_run, fits_decl, fits_name}
use Rattle.us_parse.specs.Within.{TooBig, Repeated, check}
use Rattle.us_decl.specs.Names.{is_among}
use Rattle.us_parse.specs.Machine.{reader, library_reader, library_tokens, Closed, Opened, names_of}
use Rattle.us_parse.specs.Parses.{are_distinct}
use Rattle.us_parse.proofs.Complete.{reads_decl}
use Rattle.us_parse.proofs.Shelves.{reads}
use Rattle.us_decl.proofs.Deciding.{both}

none_true : (b : Bool) → cond b None (Some TooBig) ≡ None → b ≡ true
none_true true e = refl
none_true false e = absurd cc

not_repeated : (a b : Bool) → cond a (cond b (Some Repeated) None) (Some TooBig) ≡ None → not b ≡ true
not_repeated true true e = absurd cc
not_repeated true false e = refl
not_repeated false b e = absurd cc

fits_checked : (earlier : List (List ℕ)) (d : Decl) → check earlier (Done d) ≡ None → fits_decl d ≡ true
fits_checked earlier d e = none_true (fits_decl d) e

pub one_fits : (text : Text Lexeme) (d : Decl) (behind : ℕ) (more : Text Lexeme) → IsRead (reader []) text d behind more → fits_decl d ≡ true
one_fits text d behind more r = fits_checked [] d (r.kept (decl_tokens d) [] (Done d) (sym (append-nil (decl_tokens d))) (reads_decl d))

shorter : (ds : Run Decl) (d : Decl) → Keeps library_reader (library_tokens (Then ds d)) → Keeps library_reader (library_tokens ds)
shorter ds d k = λ front more s e r. k front (more ++ decl_tokens d) s (ap (λ (x : List Token). x ++ decl_tokens d) e ∙ append_assoc front more (decl_tokens d)) r

pub all_fit : (ds : Run Decl) → Keeps library_reader (library_tokens ds) → all_run fits_decl ds ≡ true
all_fit Empty k = refl
all_fit (Then ds d) k = both _ _ (all_fit ds (shorter ds d k)) (fits_checked (names_of ds) d (k (library_tokens (Then ds d)) [] (Closed (Then ds d)) (sym (append-nil (library_tokens (Then ds d)))) (reads (Then ds d))))

-- the first two tokens of a declaration
abbrev begun : Decl → List Token
begun d = Fixed mark.Format ∷ Name d.name ∷ []

abbrev rest : Decl → List Token
rest d = Fixed mark.BraceOpen ∷ (body_tokens d.body ++ (Fixed mark.BraceClose ∷ []))

to_name : (ds : Run Decl) (d : Decl) → run library_reader (library_tokens ds ++ begun d) (Closed Empty) ≡ Some (Opened ds (AtBrace d.name))
to_name ds d = steps.run_then library_reader (library_tokens ds) (begun d) (Closed Empty) (Closed ds) _ (reads ds) refl

pub all_distinct : (ds : Run Decl) → Keeps library_reader (library_tokens ds) → are_distinct ds ≡ true
all_distinct Empty k = refl
all_distinct (Then ds d) k = both _ _ (all_distinct ds (shorter ds d k))
    (not_repeated (fits_name d.name) (is_among d.name (names_of ds)) (k (library_tokens ds ++ begun d) (rest d) (Opened ds (AtBrace d.name)) (sym (append_assoc (library_tokens ds) (begun d) (rest d))) (to_name ds d)))
