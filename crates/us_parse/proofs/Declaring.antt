-- A declaration, behind those of a library.
use Rattle.std.proofs.Common.{◌≡◌, ℕ, ◌+◌, ◌<◌, ◌≤◌, List, length, Option, Some, None, Bool, true, false, cond, ltb, ◌&&◌, refl, sym, ap, ◌∙◌, subst, Err}
use Rattle.us_tokens.specs.Text as text
use Rattle.us_tokens.specs.Text.{Text, left_of, behind_of, after}
use Rattle.us_tokens.specs.Reading.{Answer, Read, Form, NoToken, Broken, scan, judged, passed}
use Rattle.us_decl.specs.declared.lexeme.Lexeme.{Lexeme}
use Rattle.us_decl.specs.declared.lexeme.Lexeme.TheVariants as lexeme
use Rattle.us_parse.specs.declared.stop.Stop.{Stop}
use Rattle.us_parse.specs.declared.stop.Stop.TheVariants as stop
use Rattle.us_decl.specs.declared.mark.Mark.TheVariants as mark
use Rattle.us_decl.specs.declared.decl.Body as bodies
use Rattle.us_decl.specs.declared.decl.Decl as decls
use Rattle.us_decl.specs.Token.{Token, Fixed, Name}
use Rattle.us_decl.specs.Words.{is_name}
use Rattle.us_decl.specs.Grammar.{Empty, Body, Whole, Split, Decl}
use Rattle.us_parse.specs.Piece.{Piece, BehindName, AtFormat, AtName, AtBrace, Between, Done, step}
use Rattle.us_decl.specs.Limits.{fits_name}
use Rattle.us_parse.specs.Within.{Break, TooBig, Repeated, fits, check}
use Rattle.us_decl.specs.Names.{is_among}
use Rattle.us_decl.specs.Declares.{Declared, DeclaredBody, body_of}
use Rattle.us_decl.specs.Views.{body_view}
use Rattle.us_parse.specs.Machine.{reader, done}
use Rattle.us_parse.specs.Reads.{Took, lead, is_fixed, refused_at, answer_of, Ends, has_name, name_fault}
use Rattle.us_parse.specs.ReadsDecls.{before_end, GoesBody, ReadsBody, IsAnswer, GoesDecl}
use Rattle.us_decl.proofs.Deciding.{both, below, above}
use Rattle.us_parse.proofs.Cycle.{fixed_lead}
use Rattle.us_parse.proofs.Steps.{took_of, expect_is, no_expect, refuses}

-- one token, where the earlier declarations have these names
step_to : (earlier : List (List ℕ)) (old new : Text Lexeme) (t : Token) (s u : Piece) → Took old new t → step s t ≡ Some u → check earlier u ≡ None → done u ≡ None → scan (reader earlier) old s ≡ scan (reader earlier) new u
step_to earlier old new t s u k e c d =
    ap (λ (x : Text Lexeme). scan (reader earlier) x s) k.parts
    ∙ ap (λ (o : Option Piece). judged (reader earlier) (length k.bytes + k.behind) k.behind new (scan (reader earlier) new) o) (ap (step s) k.is ∙ e)
    ∙ ap (λ (o : Option Break). passed (reader earlier) (length k.bytes + k.behind) k.behind new (scan (reader earlier) new u) o (done u)) c
    ∙ ap (λ (o : Option Decl). passed (reader earlier) (length k.bytes + k.behind) k.behind new (scan (reader earlier) new u) None o) d

step_breaks : (earlier : List (List ℕ)) (old new : Text Lexeme) (t : Token) (s u : Piece) (f : Break) → Took old new t → step s t ≡ Some u → check earlier u ≡ Some f → scan (reader earlier) old s ≡ Broken f (left_of old)
step_breaks earlier old new t s u f k e c =
    ap (λ (x : Text Lexeme). scan (reader earlier) x s) k.parts
    ∙ ap (λ (o : Option Piece). judged (reader earlier) (length k.bytes + k.behind) k.behind new (scan (reader earlier) new) o) (ap (step s) k.is ∙ e)
    ∙ ap (λ (o : Option Break). passed (reader earlier) (length k.bytes + k.behind) k.behind new (scan (reader earlier) new u) o (done u)) c
    ∙ ap (λ (x : Text Lexeme). Broken f (left_of x)) (sym k.parts)

step_done : (earlier : List (List ℕ)) (old new : Text Lexeme) (t : Token) (s : Piece) (d : Decl) → Took old new t → step s t ≡ Some (Done d) → check earlier (Done d) ≡ None → scan (reader earlier) old s ≡ Read d (behind_of old) new
step_done earlier old new t s d k e c =
    ap (λ (x : Text Lexeme). scan (reader earlier) x s) k.parts
    ∙ ap (λ (o : Option Piece). judged (reader earlier) (length k.bytes + k.behind) k.behind new (scan (reader earlier) new) o) (ap (step s) k.is ∙ e)
    ∙ ap (λ (o : Option Break). passed (reader earlier) (length k.bytes + k.behind) k.behind new (scan (reader earlier) new (Done d)) o (done (Done d))) c
    ∙ ap (λ (x : Text Lexeme). Read d (behind_of x) new) (sym k.parts)

room_checks : (earlier : List (List ℕ)) (b : Bool) → ltb (length earlier) 256 ≡ b → check earlier AtName ≡ cond b None (Some TooBig)
room_checks earlier true e = ap (λ (x : Bool). cond (x && true) None (Some TooBig)) e
room_checks earlier false e = ap (λ (x : Bool). cond (x && true) None (Some TooBig)) e

name_checks : (earlier : List (List ℕ)) (n : List ℕ) → fits_name n ≡ true → check earlier (AtBrace n) ≡ cond (is_among n earlier) (Some Repeated) None
name_checks earlier n e = ap (λ (x : Bool). cond x (cond (is_among n earlier) (Some Repeated) None) (Some TooBig)) e

name_breaks : (earlier : List (List ℕ)) (n : List ℕ) → fits_name n ≡ false → check earlier (AtBrace n) ≡ Some TooBig
name_breaks earlier n e = ap (λ (x : Bool). cond x (cond (is_among n earlier) (Some Repeated) None) (Some TooBig)) e

ends_at : (earlier : List (List ℕ)) (old there : Text Lexeme) (u : Piece) (o : Option (Answer Lexeme Decl Break)) → scan (reader earlier) old AtFormat ≡ scan (reader earlier) there u → Ends there u o → IsAnswer earlier old o
ends_at earlier old there u None e f = tt
ends_at earlier old there u (Some x) e f = e ∙ f earlier

pub decl_crowded : (earlier : List (List ℕ)) (old new : Text Lexeme) (r : Stop) → Took old new (Fixed mark.Format) → 256 ≤ length earlier → r ≡ stop.TooBig (left_of old) → IsAnswer earlier old (answer_of r)
decl_crowded earlier old new r k full e = subst (λ (x : Stop). IsAnswer earlier old (answer_of x)) (sym e)
    (step_breaks earlier old new (Fixed mark.Format) AtFormat AtName TooBig k refl (room_checks earlier false (above (length earlier) 256 full)))

pub decl_no_format : (earlier : List (List ℕ)) (old : Text Lexeme) (r : Stop) → (r ≡ refused_at old) × (is_fixed mark.Format (lead old) ≡ false) → IsAnswer earlier old (answer_of r)
decl_no_format earlier old r f = subst (λ (x : Stop). IsAnswer earlier old (answer_of x)) (sym f.0)
    (ends_at earlier old old AtFormat (answer_of (refused_at old)) refl (refuses old AtFormat refl (λ t q. no_expect mark.Format AtName t (ap (is_fixed mark.Format) (sym q) ∙ f.1))))

module _ (earlier : List (List ℕ)) (old t1 : Text Lexeme) (room : length earlier < 256) (k : Took old t1 (Fixed mark.Format)) where
  to_name : scan (reader earlier) old AtFormat ≡ scan (reader earlier) t1 AtName
  to_name = step_to earlier old t1 (Fixed mark.Format) AtFormat AtName k refl (room_checks earlier true (below (length earlier) 256 room)) refl

  no_name : (there : Text Lexeme) → has_name there ≡ false → (x : Answer Lexeme Decl Break) → answer_of (name_fault there) ≡ Some x → scan (reader earlier) there AtName ≡ x
  no_name text.End e x is = let h : Form 0 ≡ x = cc in h
  no_name (text.Bad l) e x is = let h : NoToken l ≡ x = cc in h
  no_name (text.Then (lexeme.Fixed m) w c more) e x is = let h : Form (length w + c) ≡ x = cc in h
  no_name (text.Then (lexeme.Number n) w c more) e x is = let h : Form (length w + c) ≡ x = cc in h
  no_name (text.Then lexeme.Name w c more) e x is =
      let h : Broken TooBig (length w + c) ≡ x = cc in
      step_breaks earlier (text.Then lexeme.Name w c more) more (Name w) AtName (AtBrace w) TooBig (record { kind = lexeme.Name; bytes = w; behind = c; parts = refl; is = refl }) refl (name_breaks earlier w e) ∙ h

  name_answer : (o : Option (Answer Lexeme Decl Break)) → has_name t1 ≡ false → answer_of (name_fault t1) ≡ o → IsAnswer earlier old o
  name_answer None e is = tt
  name_answer (Some x) e is = to_name ∙ no_name t1 e x is

  pub decl_no_name : (r : Stop) → (r ≡ name_fault t1) × (has_name t1 ≡ false) → IsAnswer earlier old (answer_of r)
  decl_no_name r f = name_answer (answer_of r) f.1 (ap answer_of (sym f.0))

  pub decl_repeated : (t2 : Text Lexeme) (n : List ℕ) (r : Stop) → Took t1 t2 (Name n) × (is_name n ≡ true) → is_among n earlier ≡ true → r ≡ stop.Repeated (left_of t1) → IsAnswer earlier old (answer_of r)
  decl_repeated t2 n r t is e = subst (λ (x : Stop). IsAnswer earlier old (answer_of x)) (sym e)
      (to_name ∙ step_breaks earlier t1 t2 (Name n) AtName (AtBrace n) Repeated t.0 refl (name_checks earlier n t.1 ∙ ap (λ (x : Bool). cond x (Some Repeated) None) is))

  module _ (t2 : Text Lexeme) (n : List ℕ) (t : Took t1 t2 (Name n) × (is_name n ≡ true)) (new_ : is_among n earlier ≡ false) where
    to_brace : scan (reader earlier) old AtFormat ≡ scan (reader earlier) t2 (AtBrace n)
    to_brace = to_name ∙ step_to earlier t1 t2 (Name n) AtName (AtBrace n) t.0 refl (name_checks earlier n t.1 ∙ ap (λ (x : Bool). cond x (Some Repeated) None) new_) refl

    pub decl_no_brace : (r : Stop) → (r ≡ refused_at t2) × (is_fixed mark.BraceOpen (lead t2) ≡ false) → IsAnswer earlier old (answer_of r)
    decl_no_brace r f = subst (λ (x : Stop). IsAnswer earlier old (answer_of x)) (sym f.0)
        (ends_at earlier old t2 (AtBrace n) (answer_of (refused_at t2)) to_brace (refuses t2 (AtBrace n) refl (λ y q. no_expect mark.BraceOpen (Between (BehindName n) Empty) y (ap (is_fixed mark.BraceOpen) (sym q) ∙ f.1))))

    module _ (t3 : Text Lexeme) (b : Took t2 t3 (Fixed mark.BraceOpen)) where
      to_body : scan (reader earlier) old AtFormat ≡ scan (reader earlier) t3 (Between (BehindName n) Empty)
      to_body = to_brace ∙ step_to earlier t2 t3 (Fixed mark.BraceOpen) (AtBrace n) (Between (BehindName n) Empty) b (expect_is mark.BraceOpen (Between (BehindName n) Empty)) (ap (λ (x : Bool). cond x None (Some TooBig)) (both (fits_name n) _ t.1 refl)) refl

      pub decl_lost : (r : Stop) → ReadsBody t3 t3 (Err r) → IsAnswer earlier old (answer_of r)
      decl_lost r f = ends_at earlier old t3 (Between (BehindName n) Empty) (answer_of r) to_body (f n t.1)

      end_step : (body : Body) → step (before_end n body) (Fixed mark.BraceClose) ≡ Some (Done (record { name = n; body = body }))
      end_step (Whole p) = refl
      end_step (Split h p q) = refl

      end_checks : (body : Body) → fits (before_end n body) ≡ true → check earlier (Done (record { name = n; body = body })) ≡ None
      end_checks (Whole p) e = ap (λ (x : Bool). cond x None (Some TooBig)) e
      end_checks (Split h p q) e = ap (λ (x : Bool). cond x None (Some TooBig)) e

      pub decl_goes : (new : Text Lexeme) (body : bodies.Body) (decl : decls.Decl) → GoesBody t3 new body → decl.name ≡ n → decl.body ≡ body → GoesDecl earlier old new decl
      decl_goes new body decl g a c = record {
        text = record { name = n; body = g.text };
        view = same_decl decl.name n (body_view decl.body) (body_of g.text) a (ap body_view c ∙ g.view);
        is_new = ap (λ (w : List ℕ). is_among w earlier) a ∙ new_;
        ends = g.ends;
        goes = to_body ∙ g.goes n t.1 earlier ∙ step_done earlier new (after new) (Fixed mark.BraceClose) (before_end n g.text) (record { name = n; body = g.text }) (took_of new (Fixed mark.BraceClose) (fixed_lead mark.BraceClose (lead new) g.ends)) (end_step g.text) (end_checks g.text (g.fits n t.1));
      }
        where
          same_decl : (x y : List ℕ) (p q : DeclaredBody) → x ≡ y → p ≡ q → ◌≡◌ {A = Declared} (record { name = x; body = p }) (record { name = y; body = q })
          same_decl x y p q e f = ap (λ (z : List ℕ). let r : Declared = record { name = z; body = p } in r) e ∙ ap (λ (z : DeclaredBody). let r : Declared = record { name = y; body = z } in r) f
