-- Whole texts.
use Rattle.std.proofs.Common.{◌≡◌, ℕ, suc, ◌+◌, ◌-◌, ◌<◌, ◌≤◌, List, [], ◌∷◌, ◌++◌, length, map, drop, Option, Some, None, true, false, refl, sym, ap, ap₂, ◌∙◌, arith, subst, Ok, Err, length-append}
use Rattle.std.proofs.lemmas.List.{map-append}
use Rattle.std.specs.Option.{option_map}
use Rattle.us_tokens.specs.Text as text
use Rattle.us_tokens.specs.Text.{Text, left_of, behind_of, after}
use Rattle.us_tokens.specs.Places.{IsPlaced}
use Rattle.us_tokens.proofs.Places.{lexed_placed}
use Rattle.us_tokens.proofs.Reading.{scan_means}
use Rattle.us_tokens.specs.Reading as reading
use Rattle.us_tokens.specs.Reading.{Machine, Answer, Read, Whole, NoToken, Form, Broken, scan, judged, passed, at_end, Means}
use Rattle.us_decl.specs.declared.lexeme.Lexeme.{Lexeme}
use Rattle.us_parse.specs.declared.stop.Stop.{Stop}
use Rattle.us_parse.specs.declared.stop.Stop.TheVariants as stop
use Rattle.us_parse.specs.declared.parsed.OneDecl.{OneDecl}
use Rattle.us_parse.specs.declared.parsed.DeclFault.{DeclFault}
use Rattle.us_decl.specs.declared.library.Library.{Library}
use Rattle.us_decl.specs.declared.decl.Decl as decls
use Rattle.us_decl.specs.Token.{Token}
use Rattle.us_decl.specs.Words.{language, token}
use Rattle.us_decl.specs.Grammar.{Run, Empty, Then, Decl}
use Rattle.us_parse.specs.Piece.{Piece, AtFormat, Done, step}
use Rattle.us_parse.specs.Within.{Break, check}
use Rattle.us_decl.specs.Declares.{declared, run_items}
use Rattle.us_decl.specs.Declares as declares
use Rattle.us_parse.specs.Machine.{reader, done, library_reader, Closed, Opened, shelved, names_of}
use Rattle.us_decl.specs.Views.{decl_view, decl_names}
use Rattle.us_parse.specs.Reads.{answer_of, size}
use Rattle.us_parse.specs.ReadsDecls.{IsAnswer, GoesDecl}
use Rattle.us_parse.specs.Parses.{tokens_of, TellsFault, ParsesOne, ParsesLibrary, left_at, fault_of, is_end, GoesOne, library_answer, IsLibraryAnswer, GoesLibrary, ReadsLibrary}
use Rattle.us_parse.proofs.Valid.{one_fits, all_fit, all_distinct}
use Rattle.us_tokens.specs.Reading.{IsRead, IsWhole}
use Rattle.us_parse.proofs.Held as held_one
use Rattle.us_parse.proofs.Shelves as held_all

-- no more bytes are left at an answer than the text has
abbrev Within : {D : Type 0} → ℕ → Answer Lexeme D Break → Type 0
Within n (Read d behind more) = behind ≤ n
Within n (Whole d) = Unit {0}
Within n (NoToken left) = left ≤ n
Within n (Form left) = left ≤ n
Within n (Broken f left) = left ≤ n

wider : {D : Type 0} (m n : ℕ) (a : Answer Lexeme D Break) → m ≤ n → Within m a → Within n a
wider m n (Read d behind more) h w = omega arith
wider m n (Whole d) h w = tt
wider m n (NoToken left) h w = omega arith
wider m n (Form left) h w = omega arith
wider m n (Broken f left) h w = omega arith

module _ {S D : Type 0} (M : Machine Lexeme Token S D Break) where
  within_end : (n : ℕ) (o : Option D) → Within n (at_end M o)
  within_end n None = omega arith
  within_end n (Some d) = tt

  within_passed : (n left behind : ℕ) (more : Text Lexeme) (next : Answer Lexeme D Break) (f : Option Break) (o : Option D) → left ≤ n → behind ≤ n → Within n next → Within n (passed M left behind more next f o)
  within_passed n left behind more next (Some f) o a b w = a
  within_passed n left behind more next None (Some d) a b w = b
  within_passed n left behind more next None None a b w = w

  within_judged : (n left behind : ℕ) (more : Text Lexeme) (go : S → Answer Lexeme D Break) (o : Option S) → left ≤ n → behind ≤ n → ((s : S) → Within n (go s)) → Within n (judged M left behind more go o)
  within_judged n left behind more go None a b w = a
  within_judged n left behind more go (Some u) a b w = within_passed n left behind more (go u) (M.check u) (reading.finished M M.stops (M.done u)) a b (w u)

  scan_within : (old : Text Lexeme) (bytes : List ℕ) (s : S) → IsPlaced bytes old → Within (length bytes) (scan M old s)
  scan_within text.End bytes s p = within_end (length bytes) (M.done s)
  scan_within (text.Bad left) bytes s p = let e : length bytes ≡ length (p.0 ++ p.1) = ap length p.2 in let f : length p.1 ≡ left = p.3 in omega (arith, length-append p.0 p.1)
  scan_within (text.Then k w behind more) bytes s p =
      let e : length bytes ≡ length (p.0 ++ (w ++ p.1)) = ap length p.2 in
      let f : length p.1 ≡ behind = p.3 in
      let a : length w + behind ≤ length bytes = omega (arith, length-append p.0 (w ++ p.1), length-append w p.1) in
      within_judged (length bytes) (length w + behind) behind more (scan M more) (M.step s (M.token k w)) a (omega arith)
      (λ u. wider (length p.1) (length bytes) (scan M more u) (omega arith) (scan_within more p.1 u p.5))

one_within : (bytes : List ℕ) → Within (length bytes) (scan (reader []) (tokens_of bytes) AtFormat)
one_within bytes = scan_within (reader []) (tokens_of bytes) bytes AtFormat (lexed_placed language bytes)

all_within : (bytes : List ℕ) → Within (length bytes) (scan library_reader (tokens_of bytes) (Closed Empty))
all_within bytes = scan_within library_reader (tokens_of bytes) bytes (Closed Empty) (lexed_placed language bytes)

-- one declaration

pub one_goes : (bytes : List ℕ) (old new : Text Lexeme) (decl : decls.Decl) (behind : ℕ) (ds : List decls.Decl) → old ≡ tokens_of bytes → ds ≡ [] → GoesDecl (decl_names ds) old new decl → behind ≡ behind_of new → GoesOne bytes decl behind
one_goes bytes old new decl behind ds e none g b =
    let is : scan (reader []) (tokens_of bytes) AtFormat ≡ Read g.text behind (after new) =
    ap (λ (x : Text Lexeme). scan (reader []) x AtFormat) (sym e) ∙ ap (λ (x : List (List ℕ)). scan (reader x) old AtFormat) (sym (ap decl_names none)) ∙ g.goes ∙ ap (λ (x : ℕ). Read g.text x (after new)) (sym b) in record {
      text = g.text;
      more = after new;
      is = is;
      view = g.view;
      within = subst (λ (x : Answer Lexeme Decl Break). Within (length bytes) x) is (one_within bytes);
    }

one_left : (bytes : List ℕ) (r : Stop) → IsAnswer [] (tokens_of bytes) (answer_of r) → left_at r ≤ length bytes
one_left bytes (stop.Token n) a = subst (λ (x : Answer Lexeme Decl Break). Within (length bytes) x) a (one_within bytes)
one_left bytes (stop.Form n) a = subst (λ (x : Answer Lexeme Decl Break). Within (length bytes) x) a (one_within bytes)
one_left bytes (stop.TooBig n) a = subst (λ (x : Answer Lexeme Decl Break). Within (length bytes) x) a (one_within bytes)
one_left bytes (stop.Repeated n) a = subst (λ (x : Answer Lexeme Decl Break). Within (length bytes) x) a (one_within bytes)
one_left bytes stop.Memory a = omega arith

same_answer : (o : Option (Answer Lexeme Decl Break)) (bytes : List ℕ) (old : Text Lexeme) (ds : List decls.Decl) → old ≡ tokens_of bytes → ds ≡ [] → IsAnswer (decl_names ds) old o → IsAnswer [] (tokens_of bytes) o
same_answer None bytes old ds e none a = tt
same_answer (Some x) bytes old ds e none a = ap (λ (y : Text Lexeme). scan (reader []) y AtFormat) (sym e) ∙ ap (λ (y : List (List ℕ)). scan (reader y) old AtFormat) (sym (ap decl_names none)) ∙ a

pub one_lost : (bytes : List ℕ) (old : Text Lexeme) (ds : List decls.Decl) (r : Stop) → old ≡ tokens_of bytes → ds ≡ [] → IsAnswer (decl_names ds) old (answer_of r) → IsAnswer [] (tokens_of bytes) (answer_of r) × (left_at r ≤ length bytes)
one_lost bytes old ds r e none a = let b : IsAnswer [] (tokens_of bytes) (answer_of r) = same_answer (answer_of r) bytes old ds e none a in (b, one_left bytes r b)

-- a fault and its place

place_sum : (len n : ℕ) → n ≤ len → (len - n) + n ≡ len
place_sum len n h = omega arith

one_fault : (rest : List ℕ) (len : ℕ) (r : Stop) → left_at r ≤ len → IsAnswer [] (tokens_of rest) (answer_of r) → TellsFault len (fault_of len r) (scan (reader []) (tokens_of rest) AtFormat)
one_fault rest len (stop.Token n) h a = (n, a, place_sum len n h)
one_fault rest len (stop.Form n) h a = (n, a, place_sum len n h)
one_fault rest len (stop.TooBig n) h a = (n, a, place_sum len n h)
one_fault rest len (stop.Repeated n) h a = (n, a, place_sum len n h)
one_fault rest len stop.Memory h a = tt

pub parsed_one : (bytes rest : List ℕ) (from len behind : ℕ) (decl : decls.Decl) (one : OneDecl) → rest ≡ drop from bytes → len ≡ length bytes → behind ≤ len → GoesOne rest decl behind → one.decl ≡ decl → one.end ≡ len - behind → ParsesOne bytes from (Ok one)
parsed_one bytes rest from len behind decl one r l h g d e =
    let here : scan (reader []) (tokens_of (drop from bytes)) AtFormat ≡ Read g.text behind g.more = ap (λ (x : List ℕ). scan (reader []) (tokens_of x) AtFormat) (sym r) ∙ g.is in
    let read : IsRead (reader []) (tokens_of (drop from bytes)) g.text behind g.more = subst (λ (x : Answer Lexeme Decl Break). Means (reader []) (tokens_of (drop from bytes)) x) here (scan_means (reader []) (held_one.held []) (tokens_of (drop from bytes))) in record {
      answer = scan (reader []) (tokens_of (drop from bytes)) AtFormat;
      reads = refl;
      means = scan_means (reader []) (held_one.held []) (tokens_of (drop from bytes));
      tells = record {
        text = g.text;
        behind = behind;
        more = g.more;
        is = ap (λ (x : List ℕ). scan (reader []) (tokens_of x) AtFormat) (sym r) ∙ g.is;
        view = ap decl_view d ∙ g.view;
        valid = record { text = g.text; is = sym (ap decl_view d ∙ g.view); within = one_fits (tokens_of (drop from bytes)) g.text behind g.more read };
        end_is = omega (arith, e, l);
      };
    }

pub lost_one : (bytes rest : List ℕ) (from len : ℕ) (r : Stop) (f : DeclFault) → rest ≡ drop from bytes → len ≡ length bytes → left_at r ≤ len → IsAnswer [] (tokens_of rest) (answer_of r) → f ≡ fault_of len r → ParsesOne bytes from (Err f)
lost_one bytes rest from len r f e l h a is = record {
  answer = scan (reader []) (tokens_of (drop from bytes)) AtFormat;
  reads = refl;
  means = scan_means (reader []) (held_one.held []) (tokens_of (drop from bytes));
  tells = subst (λ (x : DeclFault). TellsFault (length bytes) x (scan (reader []) (tokens_of (drop from bytes)) AtFormat)) (ap (λ (n : ℕ). fault_of n r) (sym l) ∙ sym is)
      (subst (λ (x : List ℕ). TellsFault (length bytes) (fault_of (length bytes) r) (scan (reader []) (tokens_of x) AtFormat)) e (one_fault rest (length bytes) r (omega (arith, l, h)) a));
}

-- a library

abbrev follow : Run Decl → Answer Lexeme Decl Break → Answer Lexeme (Run Decl) Break
follow ds (Read d behind more) = scan library_reader more (Closed (Then ds d))
follow ds (Whole d) = Form 0
follow ds (NoToken left) = NoToken left
follow ds (Form left) = Form left
follow ds (Broken f left) = Broken f left

done_follows : (ds : Run Decl) (d : Decl) (left behind : ℕ) (more : Text Lexeme) (next : Answer Lexeme Decl Break) (c : Option Break) → passed library_reader left behind more (scan library_reader more (Closed (Then ds d))) c None ≡ follow ds (passed (reader (names_of ds)) left behind more next c (Some d))
done_follows ds d left behind more next None = refl
done_follows ds d left behind more next (Some f) = refl

open_follows : (ds : Run Decl) (left behind : ℕ) (more : Text Lexeme) (next : Answer Lexeme (Run Decl) Break) (next' : Answer Lexeme Decl Break) (c : Option Break) → next ≡ follow ds next' → passed library_reader left behind more next c None ≡ follow ds (passed (reader (names_of ds)) left behind more next' c None)
open_follows ds left behind more next next' None e = e
open_follows ds left behind more next next' (Some f) e = refl

abbrev Follows : Text Lexeme → Run Decl → Type 0
Follows more ds = (s : Piece) → done s ≡ None → scan library_reader more (Opened ds s) ≡ follow ds (scan (reader (names_of ds)) more s)

judged_follows : (ds : Run Decl) (left behind : ℕ) (more : Text Lexeme) (u : Piece) → Follows more ds → judged library_reader left behind more (scan library_reader more) (Some (shelved ds u)) ≡ follow ds (judged (reader (names_of ds)) left behind more (scan (reader (names_of ds)) more) (Some u))
judged_follows ds left behind more (Done d) go = done_follows ds d left behind more (scan (reader (names_of ds)) more (Done d)) (check (names_of ds) (Done d))
judged_follows ds left behind more u go = open_follows ds left behind more (scan library_reader more (Opened ds u)) (scan (reader (names_of ds)) more u) (check (names_of ds) u) (go u refl)

step_follows : (ds : Run Decl) (left behind : ℕ) (more : Text Lexeme) (o : Option Piece) → Follows more ds → judged library_reader left behind more (scan library_reader more) (option_map (shelved ds) o) ≡ follow ds (judged (reader (names_of ds)) left behind more (scan (reader (names_of ds)) more) o)
step_follows ds left behind more None go = refl
step_follows ds left behind more (Some u) go = judged_follows ds left behind more u go

end_follows : (ds : Run Decl) (o : Option Decl) → o ≡ None → at_end library_reader (option_map (Then ds) o) ≡ follow ds (at_end (reader (names_of ds)) o)
end_follows ds None e = refl
end_follows ds (Some d) e = absurd cc

opened_follows : (old : Text Lexeme) (ds : Run Decl) → Follows old ds
opened_follows text.End ds = λ s e. end_follows ds (done s) e
opened_follows (text.Bad left) ds = λ s e. refl
opened_follows (text.Then k w behind more) ds = λ s e. step_follows ds (length w + behind) behind more (step s (token k w)) (opened_follows more ds)

closed_follows : (old : Text Lexeme) (ds : Run Decl) → is_end old ≡ false → scan library_reader old (Closed ds) ≡ follow ds (scan (reader (names_of ds)) old AtFormat)
closed_follows text.End ds e = absurd cc
closed_follows (text.Bad left) ds e = refl
closed_follows (text.Then k w behind more) ds e = step_follows ds (length w + behind) behind more (step AtFormat (token k w)) (opened_follows more ds)

pub start_library : (bytes : List ℕ) (old : Text Lexeme) (ds : List decls.Decl) → old ≡ tokens_of bytes → ds ≡ [] → GoesLibrary (tokens_of bytes) old ds
start_library bytes old ds e none = record {
  text = Empty;
  names = sym (ap decl_names none);
  view = ap (map decl_view) none;
  goes = ap (λ (x : Text Lexeme). scan library_reader x (Closed Empty)) (sym e);
}

pub more_library : (start old left new : Text Lexeme) (ds pushed : List decls.Decl) (decl : decls.Decl) → GoesLibrary start old ds → is_end old ≡ false → GoesDecl (decl_names ds) old left decl → new ≡ after left → pushed ≡ ds ++ (decl ∷ []) → GoesLibrary start new pushed
more_library start old left new ds pushed decl g e h n p = record {
  text = Then g.text h.text;
  names = ap₂ (λ (x : List (List ℕ)) (y : List ℕ). x ++ (y ∷ [])) g.names (sym (ap (λ (x : declares.Declared). x.name) h.view)) ∙ sym (map-append (λ (x : decls.Decl). x.name) ds (decl ∷ [])) ∙ sym (ap decl_names p);
  view = ap (map decl_view) p ∙ map-append decl_view ds (decl ∷ []) ∙ ap₂ (λ (x : List declares.Declared) (y : declares.Declared). x ++ (y ∷ [])) g.view h.view ∙ sym (map-append declared (run_items g.text) (h.text ∷ []));
  goes = g.goes ∙ closed_follows old g.text e ∙ ap (follow g.text) (ap (λ (x : List (List ℕ)). scan (reader x) old AtFormat) g.names ∙ h.goes) ∙ ap (λ (x : Text Lexeme). scan library_reader x (Closed (Then g.text h.text))) (sym n);
}

fault_follows : (start old : Text Lexeme) (ds : List decls.Decl) (r : Stop) → GoesLibrary start old ds → is_end old ≡ false → IsAnswer (decl_names ds) old (answer_of r) → IsLibraryAnswer start (library_answer r)
fault_follows start old ds (stop.Token n) g e a = g.goes ∙ closed_follows old g.text e ∙ ap (follow g.text) (ap (λ (x : List (List ℕ)). scan (reader x) old AtFormat) g.names ∙ a)
fault_follows start old ds (stop.Form n) g e a = g.goes ∙ closed_follows old g.text e ∙ ap (follow g.text) (ap (λ (x : List (List ℕ)). scan (reader x) old AtFormat) g.names ∙ a)
fault_follows start old ds (stop.TooBig n) g e a = g.goes ∙ closed_follows old g.text e ∙ ap (follow g.text) (ap (λ (x : List (List ℕ)). scan (reader x) old AtFormat) g.names ∙ a)
fault_follows start old ds (stop.Repeated n) g e a = g.goes ∙ closed_follows old g.text e ∙ ap (follow g.text) (ap (λ (x : List (List ℕ)). scan (reader x) old AtFormat) g.names ∙ a)
fault_follows start old ds stop.Memory g e a = tt

library_left : (bytes : List ℕ) (r : Stop) → IsLibraryAnswer (tokens_of bytes) (library_answer r) → left_at r ≤ length bytes
library_left bytes (stop.Token n) a = subst (λ (x : Answer Lexeme (Run Decl) Break). Within (length bytes) x) a (all_within bytes)
library_left bytes (stop.Form n) a = subst (λ (x : Answer Lexeme (Run Decl) Break). Within (length bytes) x) a (all_within bytes)
library_left bytes (stop.TooBig n) a = subst (λ (x : Answer Lexeme (Run Decl) Break). Within (length bytes) x) a (all_within bytes)
library_left bytes (stop.Repeated n) a = subst (λ (x : Answer Lexeme (Run Decl) Break). Within (length bytes) x) a (all_within bytes)
library_left bytes stop.Memory a = omega arith

pub lost_library : (bytes : List ℕ) (old : Text Lexeme) (ds : List decls.Decl) (r : Stop) → GoesLibrary (tokens_of bytes) old ds → is_end old ≡ false → IsAnswer (decl_names ds) old (answer_of r) → IsLibraryAnswer (tokens_of bytes) (library_answer r) × (left_at r ≤ length bytes)
lost_library bytes old ds r g e a = let b : IsLibraryAnswer (tokens_of bytes) (library_answer r) = fault_follows (tokens_of bytes) old ds r g e a in (b, library_left bytes r b)

library_fault : (bytes : List ℕ) (len : ℕ) (r : Stop) → left_at r ≤ len → IsLibraryAnswer (tokens_of bytes) (library_answer r) → TellsFault len (fault_of len r) (scan library_reader (tokens_of bytes) (Closed Empty))
library_fault bytes len (stop.Token n) h a = (n, a, place_sum len n h)
library_fault bytes len (stop.Form n) h a = (n, a, place_sum len n h)
library_fault bytes len (stop.TooBig n) h a = (n, a, place_sum len n h)
library_fault bytes len (stop.Repeated n) h a = (n, a, place_sum len n h)
library_fault bytes len stop.Memory h a = tt

at_the_end : (new : Text Lexeme) (ds : Run Decl) → is_end new ≡ true → scan library_reader new (Closed ds) ≡ Whole ds
at_the_end text.End ds e = refl
at_the_end (text.Bad left) ds e = absurd cc
at_the_end (text.Then k w behind more) ds e = absurd cc

pub parsed_library : (bytes : List ℕ) (library : Library) → ReadsLibrary bytes (Ok library) → ParsesLibrary bytes (Ok library)
parsed_library bytes library (new, g, e) =
    let here : scan library_reader (tokens_of bytes) (Closed Empty) ≡ Whole g.text = g.goes ∙ at_the_end new g.text e in
    let read : IsWhole library_reader (tokens_of bytes) g.text = subst (λ (x : Answer Lexeme (Run Decl) Break). Means library_reader (tokens_of bytes) x) here (scan_means library_reader held_all.held (tokens_of bytes)) in record {
      answer = scan library_reader (tokens_of bytes) (Closed Empty);
      reads = refl;
      means = scan_means library_reader held_all.held (tokens_of bytes);
      tells = record { text = g.text; is = here; view = g.view; fits = all_fit g.text read.kept; distinct = all_distinct g.text read.kept };
    }

pub fault_library : (bytes : List ℕ) (len : ℕ) (r : Stop) (f : DeclFault) → len ≡ length bytes → ReadsLibrary bytes (Err r) → f ≡ fault_of len r → ParsesLibrary bytes (Err f)
fault_library bytes len r f l a is = record {
  answer = scan library_reader (tokens_of bytes) (Closed Empty);
  reads = refl;
  means = scan_means library_reader held_all.held (tokens_of bytes);
  tells = subst (λ (x : DeclFault). TellsFault (length bytes) x (scan library_reader (tokens_of bytes) (Closed Empty))) (ap (λ (n : ℕ). fault_of n r) (sym l) ∙ sym is) (library_fault bytes (length bytes) r a.1 a.0);
}

-- fewer tokens are left behind a declaration
end_reads_none : (e : List (List ℕ)) (o : Option Decl) (d : Decl) (b n : ℕ) (more : Text Lexeme) → at_end (reader e) o ≡ Read d b more → size more < n
end_reads_none e None d b n more q = absurd cc
end_reads_none e (Some x) d b n more q = absurd cc

passed_smaller : (e : List (List ℕ)) (left behind : ℕ) (here more : Text Lexeme) (next : Answer Lexeme Decl Break) (c : Option Break) (o : Option Decl) (d : Decl) (b : ℕ) → (next ≡ Read d b more → size more < suc (size here)) → passed (reader e) left behind here next c o ≡ Read d b more → size more < suc (size here)
passed_smaller e left behind here more next (Some f) o d b go q = absurd cc
passed_smaller e left behind here more next None (Some x) d b go q = let is : here ≡ more = cc in let n : size here ≡ size more = ap size is in omega arith
passed_smaller e left behind here more next None None d b go q = go q

judged_smaller : (e : List (List ℕ)) (left behind : ℕ) (here more : Text Lexeme) (o : Option Piece) (d : Decl) (b : ℕ) → ((s : Piece) → scan (reader e) here s ≡ Read d b more → size more < suc (size here)) → judged (reader e) left behind here (scan (reader e) here) o ≡ Read d b more → size more < suc (size here)
judged_smaller e left behind here more None d b go q = absurd cc
judged_smaller e left behind here more (Some u) d b go q = passed_smaller e left behind here more (scan (reader e) here u) (check e u) (done u) d b (go u) q

read_smaller : (e : List (List ℕ)) (old more : Text Lexeme) (s : Piece) (d : Decl) (b : ℕ) → scan (reader e) old s ≡ Read d b more → size more < size old
read_smaller e text.End more s d b q = end_reads_none e (done s) d b 0 more q
read_smaller e (text.Bad left) more s d b q = absurd cc
read_smaller e (text.Then k w behind here) more s d b q = judged_smaller e (length w + behind) behind here more (step s (token k w)) d b (λ u r. let h : size more < size here = read_smaller e here more u d b r in omega arith) q

pub decl_smaller : (e : List (List ℕ)) (old left new : Text Lexeme) (decl : decls.Decl) → GoesDecl e old left decl → new ≡ after left → size new < size old
decl_smaller e old left new decl g n = let a : size (after left) < size old = read_smaller e old (after left) AtFormat g.text (behind_of left) g.goes in let b : size new ≡ size (after left) = ap size n in omega arith
