-- What one more token does to the reading from a piece.
use Rattle.std.proofs.Common.{◌≡◌, ℕ, suc, ◌+◌, ◌<◌, List, length, Option, Some, None, Bool, true, false, cond, refl, sym, ap, ◌∙◌, arith, subst}
use denote.Enum.Bare.{true_same}
use Rattle.us_decl.specs.contracts.mark.Mark.{the_type}
use Rattle.us_tokens.specs.Text as text
use Rattle.us_tokens.specs.Text.{Text, left_of, after}
use Rattle.us_tokens.specs.Reading.{Answer, Broken, scan, judged, passed, at_end}
use Rattle.us_decl.specs.declared.lexeme.Lexeme.{Lexeme}
use Rattle.us_parse.specs.declared.stop.Stop.{Stop}
use Rattle.us_parse.specs.declared.stop.Stop.TheVariants as stop
use Rattle.us_decl.specs.Words.{token}
use Rattle.us_parse.specs.Within.{Break, TooBig, fits, check}
use Rattle.us_parse.specs.Machine.{reader, done}
use Rattle.us_parse.specs.Reads.{size, Took, lead, is_fixed, refused_at, answer_of, Leads, Ends, Fails, Missed}
use Rattle.us_decl.specs.Token.{Token, Fixed, Name, Number, same}
use Rattle.us_decl.specs.declared.mark.Mark.{Mark}
use Rattle.us_decl.specs.Grammar.{Decl}
use Rattle.us_parse.specs.Piece.{Piece, expect, step}

-- a piece for which the names of the earlier declarations tell nothing, and that is no whole text
abbrev pub Plain : Piece → Type 0
Plain u = ((earlier : List (List ℕ)) → check earlier u ≡ cond (fits u) None (Some TooBig)) × (done u ≡ None)

passes : (earlier : List (List ℕ)) (left behind : ℕ) (new : Text Lexeme) (u : Piece) → Plain u → fits u ≡ true → judged (reader earlier) left behind new (scan (reader earlier) new) (Some u) ≡ scan (reader earlier) new u
passes earlier left behind new u p f =
    let c : check earlier u ≡ None = p.0 earlier ∙ ap (λ (b : Bool). cond b None (Some TooBig)) f in
    ap (λ (o : Option Break). passed (reader earlier) left behind new (scan (reader earlier) new u) o (done u)) c
    ∙ ap (λ (o : Option Decl). passed (reader earlier) left behind new (scan (reader earlier) new u) None o) p.1

breaks : (earlier : List (List ℕ)) (left behind : ℕ) (new : Text Lexeme) (u : Piece) → Plain u → fits u ≡ false → judged (reader earlier) left behind new (scan (reader earlier) new) (Some u) ≡ Broken TooBig left
breaks earlier left behind new u p f =
    let c : check earlier u ≡ Some TooBig = p.0 earlier ∙ ap (λ (b : Bool). cond b None (Some TooBig)) f in
    ap (λ (o : Option Break). passed (reader earlier) left behind new (scan (reader earlier) new u) o (done u)) c

-- a token is taken within the limits
pub goes : (old new : Text Lexeme) (t : Token) (s u : Piece) → Took old new t → step s t ≡ Some u → Plain u → fits u ≡ true → Leads old s new u
goes old new t s u k e p f = λ earlier.
    ap (λ (x : Text Lexeme). scan (reader earlier) x s) k.parts
    ∙ ap (λ (o : Option Piece). judged (reader earlier) (length k.bytes + k.behind) k.behind new (scan (reader earlier) new) o) (ap (step s) k.is ∙ e)
    ∙ passes earlier (length k.bytes + k.behind) k.behind new u p f

-- a token breaks a limit
pub exceeds : (old new : Text Lexeme) (t : Token) (s u : Piece) → Took old new t → step s t ≡ Some u → Plain u → fits u ≡ false → Fails old s (stop.TooBig (left_of old))
exceeds old new t s u k e p f = λ earlier.
    ap (λ (x : Text Lexeme). scan (reader earlier) x s) k.parts
    ∙ ap (λ (o : Option Piece). judged (reader earlier) (length k.bytes + k.behind) k.behind new (scan (reader earlier) new) o) (ap (step s) k.is ∙ e)
    ∙ breaks earlier (length k.bytes + k.behind) k.behind new u p f ∙ ap (λ (x : Text Lexeme). Broken TooBig (left_of x)) (sym k.parts)

-- a token that can't stand here
pub refuses : (old : Text Lexeme) (s : Piece) → done s ≡ None → ((t : Token) → lead old ≡ Some t → step s t ≡ None) → Fails old s (refused_at old)
refuses text.End s d e = λ earlier. ap (at_end (reader earlier)) d
refuses (text.Bad left) s d e = λ earlier. refl
refuses (text.Then k w behind more) s d e = λ earlier. ap (λ (o : Option Piece). judged (reader earlier) (length w + behind) behind more (scan (reader earlier) more) o) (e (token k w) refl)

pub took_of : (old : Text Lexeme) (t : Token) → lead old ≡ Some t → Took old (after old) t
took_of text.End t e = absurd cc
took_of (text.Bad left) t e = absurd cc
took_of (text.Then k w behind more) t e = record { kind = k; bytes = w; behind = behind; parts = refl; is = let h : token k w ≡ t = cc in h }

pub lead_of : (old new : Text Lexeme) (t : Token) → Took old new t → lead old ≡ Some t
lead_of old new t k = ap lead k.parts ∙ ap Some k.is

pub rest_of : (old new : Text Lexeme) (t : Token) → Took old new t → new ≡ after old
rest_of old new t k = sym (ap after k.parts)

pub leads_then : (a b c : Text Lexeme) (s u v : Piece) → Leads a s b u → Leads b u c v → Leads a s c v
leads_then a b c s u v x y = λ earlier. x earlier ∙ y earlier

ends_via : (o : Option (Answer Lexeme Decl Break)) (a b : Text Lexeme) (s u : Piece) → Leads a s b u → Ends b u o → Ends a s o
ends_via None a b s u x y = tt
ends_via (Some r) a b s u x y = λ earlier. x earlier ∙ y earlier

pub fails_via : (e : Stop) (a b : Text Lexeme) (s u : Piece) → Leads a s b u → Fails b u e → Fails a s e
fails_via e a b s u x y = ends_via (answer_of e) a b s u x y

-- a call that missed
pub missed : (e f : Stop) (b : Bool) (old : Text Lexeme) (s : Piece) → Missed f b e → (b ≡ false → Fails old s f) → Fails old s e
missed (stop.Token n) f b old s m k = subst (λ (x : Stop). Fails old s x) (sym m.0) (k m.1)
missed (stop.Form n) f b old s m k = subst (λ (x : Stop). Fails old s x) (sym m.0) (k m.1)
missed (stop.TooBig n) f b old s m k = subst (λ (x : Stop). Fails old s x) (sym m.0) (k m.1)
missed (stop.Repeated n) f b old s m k = subst (λ (x : Stop). Fails old s x) (sym m.0) (k m.1)
missed stop.Memory f b old s m k = tt

pub memory : (e : Stop) (old : Text Lexeme) (s : Piece) → e ≡ stop.Memory → Fails old s e
memory e old s is = subst (λ (x : Stop). Fails old s x) (sym is) tt

-- one word or symbol

pub same_self : (m : Mark) → same m m ≡ true
same_self m = true_same the_type m m refl

pub expect_is : (m : Mark) (u : Piece) → expect m u (Fixed m) ≡ Some u
expect_is m u = ap (λ (b : Bool). cond b (Some u) None) (same_self m)

pub goes_expect : (m : Mark) (old new : Text Lexeme) (s u : Piece) → Took old new (Fixed m) → step s (Fixed m) ≡ expect m u (Fixed m) → Plain u → fits u ≡ true → Leads old s new u
goes_expect m old new s u k e p f = goes old new (Fixed m) s u k (e ∙ expect_is m u) p f

pub no_expect : (m : Mark) (u : Piece) (t : Token) → is_fixed m (Some t) ≡ false → expect m u t ≡ None
no_expect m u (Fixed k) e = ap (λ (b : Bool). cond b (Some u) None) e
no_expect m u (Name w) e = refl
no_expect m u (Number n) e = refl

pub fails_expect : (m : Mark) (old : Text Lexeme) (s u : Piece) → done s ≡ None → ((t : Token) → step s t ≡ expect m u t) → is_fixed m (lead old) ≡ false → Fails old s (refused_at old)
fails_expect m old s u d e n = refuses old s d (λ t is. e t ∙ no_expect m u t (ap (is_fixed m) (sym is) ∙ n))

pub shorter_took : (old new : Text Lexeme) (t : Token) → Took old new t → size new < size old
shorter_took old new t k = let e : size old ≡ suc (size new) = ap size k.parts in omega arith
