-- The reader of a library is held to the grammar, and reads one declaration after the other.
use Rattle.std.proofs.Common.{◌≡◌, List, [], ◌∷◌, ◌++◌, Option, Some, None, true, false, refl, sym, ap, ◌∙◌, append_assoc}
use Rattle.std.proofs.lemmas.List.{append-nil}
use Rattle.std.specs.Option.{option_map}
use Rattle.us_tokens.specs.Reading as reading
use Rattle.us_tokens.specs.Reading.{IsHeld, IsTaken}
use Rattle.us_tokens.proofs.Reading as steps
use Rattle.us_parse.proofs.Run.{run, go_on}
use Rattle.us_parse.proofs.Adds as adding
use Rattle.us_parse.proofs.Held as holding
use Rattle.us_parse.proofs.Finishes as finishing
use Rattle.us_parse.proofs.Complete.{reads_decl}
use Rattle.us_parse.specs.Machine.{done, library_reader, library_tokens, Shelf, Closed, Opened, shelved, shelf_step, shelf_done}
use Rattle.us_decl.specs.Token.{Token}
use Rattle.us_decl.specs.Grammar.{Run, Empty, Then, Decl, decl_tokens}
use Rattle.us_parse.specs.Piece.{Piece, AtFormat, Done, spelled, step}

abbrev pub shelf_tokens : Shelf → List Token
shelf_tokens (Closed ds) = library_tokens ds
shelf_tokens (Opened ds s) = library_tokens ds ++ spelled s

shelved_tokens : (ds : Run Decl) (s : Piece) → shelf_tokens (shelved ds s) ≡ library_tokens ds ++ spelled s
shelved_tokens ds (Done d) = refl
shelved_tokens ds _ = refl

adds_one : (ds : Run Decl) (s : Piece) (t : Token) (o : Option Piece) (l : Shelf) → adding.Adds s t o → option_map (shelved ds) o ≡ Some l → shelf_tokens l ≡ (library_tokens ds ++ spelled s) ++ (t ∷ [])
adds_one ds s t None l e k = absurd cc
adds_one ds s t (Some u) l e k =
    let is : shelved ds u ≡ l = cc in
    ap shelf_tokens (sym is) ∙ shelved_tokens ds u ∙ ap (λ (x : List Token). library_tokens ds ++ x) e ∙ sym (append_assoc (library_tokens ds) (spelled s) (t ∷ []))

adds : (s : Shelf) (t : Token) (u : Shelf) → shelf_step s t ≡ Some u → shelf_tokens u ≡ shelf_tokens s ++ (t ∷ [])
adds (Closed ds) t u e = adds_one ds AtFormat t (step AtFormat t) u (adding.adds AtFormat t) e ∙ ap (λ (x : List Token). x ++ (t ∷ [])) (append-nil (library_tokens ds))
adds (Opened ds s) t u e = adds_one ds s t (step s t) u (adding.adds s t) e

ends_opened : (xs : Run Decl) (s : Piece) (ds : Run Decl) (o : Option Decl) → done s ≡ o → option_map (Then xs) o ≡ Some ds → library_tokens xs ++ spelled s ≡ library_tokens ds
ends_opened xs s ds None is e = absurd cc
ends_opened xs s ds (Some d) is e =
    let k : Then xs d ≡ ds = cc in
    ap (λ (x : List Token). library_tokens xs ++ x) (holding.ends s d is) ∙ ap library_tokens k

ends : (s : Shelf) (ds : Run Decl) → shelf_done s ≡ Some ds → shelf_tokens s ≡ library_tokens ds
ends (Closed xs) ds e = let is : xs ≡ ds = cc in ap library_tokens is
ends (Opened xs s) ds e = ends_opened xs s ds (done s) refl e

abbrev runs : List Token → Shelf → Option Shelf
runs = reading.run library_reader

none_behind : (ts : List Token) (d : Decl) (u : Piece) → run ts (Done d) ≡ Some u → (ts ≡ []) × (u ≡ Done d)
none_behind [] d u e = (refl, let is : u ≡ Done d = cc in is)
none_behind (t ∷ ts) d u e = absurd cc

-- what leads from a piece to a whole declaration leads from the shelf with it to the shelf with that declaration
abbrev Leads : List Token → Run Decl → Decl → Type 0
Leads ts ds d = (s : Piece) → done s ≡ None → run ts s ≡ Some (Done d) → runs ts (Opened ds s) ≡ Some (Closed (Then ds d))

from_shelf : (ts : List Token) (ds : Run Decl) (d : Decl) (u : Piece) → Leads ts ds d → run ts u ≡ Some (Done d) → runs ts (shelved ds u) ≡ Some (Closed (Then ds d))
from_shelf ts ds d (Done x) go e =
    let p = none_behind ts x (Done d) e in
    let is : d ≡ x = let q = p.1 in cc in
    ap (λ (y : List Token). runs y (Closed (Then ds x))) p.0 ∙ ap (λ (y : Decl). Some (Closed (Then ds y))) (sym is)
from_shelf ts ds d u go e = go u refl e

further : (ts : List Token) (ds : Run Decl) (d : Decl) (o : Option Piece) → Leads ts ds d → go_on (run ts) o ≡ Some (Done d) → reading.go_on (runs ts) (option_map (shelved ds) o) ≡ Some (Closed (Then ds d))
further ts ds d None go e = absurd cc
further ts ds d (Some u) go e = from_shelf ts ds d u go e

opened : (ts : List Token) (ds : Run Decl) (d : Decl) → Leads ts ds d
opened [] ds d = λ s open_ e. let is : s ≡ Done d = cc in absurd (let k : Some d ≡ None = sym (ap done is) ∙ open_ in cc)
opened (t ∷ ts) ds d = λ s open_ e. further ts ds d (step s t) (opened ts ds d) e

from_closed : (ts : List Token) (ds : Run Decl) (d : Decl) → run ts AtFormat ≡ Some (Done d) → runs ts (Closed ds) ≡ Some (Closed (Then ds d))
from_closed [] ds d e = absurd cc
from_closed (t ∷ ts) ds d e = further ts ds d (step AtFormat t) (opened ts ds d) e

finishes_opened : (ds : Run Decl) (s : Piece) (o : Option Decl) → done s ≡ o → reading.Finishes library_reader (Opened ds s)
finishes_opened ds s (Some d) e = record { more = []; last = Opened ds s; text = Then ds d; leads = refl; whole = ap (option_map (Then ds)) e }
finishes_opened ds s None e =
    let f = finishing.finishes s in
    record { more = f.tokens; last = Closed (Then ds f.decl); text = Then ds f.decl; leads = opened f.tokens ds f.decl s e f.leads; whole = refl }

finishes : (s : Shelf) → reading.Finishes library_reader s
finishes (Closed ds) = record { more = []; last = Closed ds; text = ds; leads = refl; whole = refl }
finishes (Opened ds s) = finishes_opened ds s (done s) refl

pub reads : (ds : Run Decl) → runs (library_tokens ds) (Closed Empty) ≡ Some (Closed ds)
reads Empty = refl
reads (Then ds d) = steps.run_then library_reader (library_tokens ds) (decl_tokens d) (Closed Empty) (Closed ds) _ (reads ds) (from_closed (decl_tokens d) ds d (reads_decl d))

pub held : IsHeld library_reader
held = record {
  spelled = shelf_tokens;
  begins = refl;
  adds = adds;
  ends = ends;
  finishes = finishes;
  reads = λ ds. record { last = Closed ds; leads = reads ds; whole = refl };
  last = λ (e : false ≡ true). absurd cc;
  fits = refl;
}
